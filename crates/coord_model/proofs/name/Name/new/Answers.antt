use Rattle.std.proofs.Common.{◌≡◌, true, refl, sym, ◌∙◌}
use Rattle.std.proofs.Math.Seq.{take-append_seam}
use Rattle.coord_model.specs.Name.{is_name}
use Rattle.coord_model.proofs.Names.{stored}
use Rattle.coord_model.proofs.name.Name.new.Goals as goal

pub invariant_of-result : goal.invariant_of-result
invariant_of-result c = rw c.copy_from_slice.ensures.after (stored c.args.bytes.now (sym c.is_name.ensures ∙ c.if-not-is_name.false))

pub returns : goal.returns
returns c =
    let yes : is_name c.args.bytes.now ≡ true = sym c.is_name.ensures ∙ c.if-not-is_name.false in
    rw (c.copy_from_slice.ensures.after, take-append_seam, yes) refl
