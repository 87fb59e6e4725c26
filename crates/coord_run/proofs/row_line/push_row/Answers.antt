use Rattle.std.proofs.Common.{◌∙◌, append_assoc, ap, rules, w64}
use Rattle.std.proofs.lemmas.Int.{to_z-of_z}
use Rattle.coord_model.specs.StudyData.{StudyData}
use Rattle.coord_model.specs.declared.study.Row.{Row}
use Rattle.coord_run.specs.RowLine.{fault_name, relay_name}
use Rattle.coord_run.proofs.row_line.push_row.Goals as goal

pub returns-clause-line : goal.returns-clause-line
returns-clause-line c =
    let study = c.args.inst.now.study in
    let read = c.row-at.result in
    let value = c.study-study.ensures.value in
    let same = c.row-at.ensures.exact in
    let fault = c.fault_name.ensures ∙ ap (λ (s : StudyData). fault_name s read.fault) value ∙ ap (λ (r : Row). fault_name study r.fault) same in
    let backup = c.relay_name.ensures ∙ ap (λ (s : StudyData). relay_name s read.backup) value ∙ ap (λ (r : Row). relay_name study r.backup) same in
    let primary = c.relay_name-2.ensures ∙ ap (λ (s : StudyData). relay_name s read.primary) value ∙ ap (λ (r : Row). relay_name study r.primary) same in
    let kind = ap (λ (r : Row). r.kind) same in
    let loose = to_z-of_z w64 c.loose_row.result (search rules) in
    let strict = to_z-of_z w64 c.strict_row-strict.result (search rules) in
    rw (c.in_ok-push_margins.ensures, c.in_ok-push_names.ensures, fault, backup, primary, kind, loose, strict, c.loose_row.ensures.exact, c.strict_row-strict.ensures.exact)
    (simp append_assoc)
