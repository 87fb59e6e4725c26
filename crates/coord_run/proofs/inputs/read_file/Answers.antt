use Rattle.std.proofs.Common.{ap, inl, inr, refl, subst, Err, ℕ}
use Rattle.coord_io.specs.Files.{IsLonger}
use Rattle.coord_io.specs.Outside.{Told}
use Rattle.coord_run.proofs.ReadingLaws.{absent_of}
use Rattle.coord_run.proofs.inputs.read_file.Goals as goal

pub returns-in-Err-Missing-clause-stopped : goal.returns-in-Err-Missing-clause-stopped
returns-in-Err-Missing-clause-stopped g c =
    let before = g.F.Folder.state c.args.folder.now in
    let after = g.F.Folder.state c.read_whole.new.folder in
    inl (refl, absent_of before after c.args.name.now (c.in-Err-Missing.ensures.missing (ap Err c.in-Err-Missing.field-0-is)))

pub returns-in-Err-Failed-clause-stopped : goal.returns-in-Err-Failed-clause-stopped
returns-in-Err-Failed-clause-stopped g c = inr (inl (refl, c.in-Err-Failed.ensures.failed (ap Err c.in-Err-Failed.field-0-is)))

pub returns-in-Err-TooLong-clause-stopped : goal.returns-in-Err-TooLong-clause-stopped
returns-in-Err-TooLong-clause-stopped g c =
    let before = g.F.Folder.state c.args.folder.now in
    let after = g.F.Folder.state c.read_whole.new.folder in
    let long = c.in-Err-TooLong.ensures.too_long _ (ap Err c.in-Err-TooLong.field-0-is) in
    inr (inr (refl, subst (λ (limit : ℕ). Told before after (λ m. IsLonger m c.args.name.now limit)) c.most_bytes.ensures long.1))
