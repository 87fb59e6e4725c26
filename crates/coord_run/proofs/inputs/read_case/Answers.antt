use Rattle.std.proofs.Common.{inr, refl, sym, subst, arith}
use Rattle.coord_run.specs.Inputs.{AreInputs}
use Rattle.coord_io.specs.Outside.{Told}
use Rattle.margin_rows.specs.Case.{Case, case_of}
use Rattle.coord_run.proofs.inputs.read_case.Goals as goal

pub returns-in-Ok-clause-read : goal.returns-in-Ok-clause-read
returns-in-Ok-clause-read g c =
    let before = g.F.Folder.state c.args.folder.now in
    let after = g.F.Folder.state c.read_inputs.new.folder in
    let Read : Case → Type 0 = λ case. Told before after (λ m. AreInputs m c.args.network.now c.args.currents.now case.study case.currents) in
    subst Read (sym c.in-Ok.ensures.exact) c.in_ok-study.ensures.read

pub returns-in-Err-TooManyRows-clause-stopped : goal.returns-in-Err-TooManyRows-clause-stopped
returns-in-Err-TooManyRows-clause-stopped g c =
    let cause = rw c.in-Err-TooManyRows.field-0-is at c.in-Err-TooManyRows.ensures.refused in
    inr (refl, (case_of c.in_ok-study.study c.in_ok-study.currents, c.in_ok-study.ensures.read, omega (arith, cause)))
