use Rattle.std.specs.Prelude.{IsTrue, ℤ, pos, ◌≤ℤ◌}
use Rattle.std.specs.Int.Signed.{le_z}
use mir.Syntax.{w64}
use mir.Val.{SFits, to_z, of_z}
use Rattle.std.proofs.Common.{◌≡◌, ◌↔◌, ◌*◌, ℕ, ◌∙◌, arith, rules}
use Rattle.std.proofs.lemmas.Int.{ints, to_z-of_z}
use Rattle.coord_model.specs.Dial.{dial_at_step}
use Rattle.coord_model.specs.declared.study.Row.{Row}
use Rattle.margin_rows.specs.Case.{Case, row_at}
use Rattle.margin_rows.specs.Margin.{margin_of}
use Rattle.margin_rows.specs.Times.{time_at}
use Rattle.margin_rows.proofs.Placed.{margin_sign}
use Rattle.box_range.specs.Meeting.{MeetsWith}
use Rattle.box_range.specs.declared.row.RowSteps.{RowSteps}
use Rattle.box_range.proofs.Places.{row_is}
use Rattle.box_range.proofs.row.meets.Goals as goal

-- the margin at the steps is at least 0 exactly where they meet the row
sign : (case : Case) (row at : Row) (steps : RowSteps) (db tb dp tp : ℕ) (z : ℤ) → at ≡ row → z ≡ margin_of case.study at (db * tb) (dp * tp)
    → db ≡ dial_at_step case.study row.backup steps.backup_dial → tb ≡ (time_at case at.fault at.backup steps.backup_pickup).upper
    → dp ≡ dial_at_step case.study row.primary steps.primary_dial → tp ≡ (time_at case at.fault at.primary steps.primary_pickup).lower
    → (pos 0 ≤ℤ z) ↔ MeetsWith case row steps
sign case row at steps db tb dp tp z same is b t p u =
    let backup = rw same at t in
    let primary = rw same at u in
    rw (is, same, b, backup, p, primary) (margin_sign case.study row _ _)

-- what a test of it says
below : (z : ℤ) → IsTrue (le_z (pos 0) z) → pos 0 ≤ℤ z
below z h = grind (arith, ints)

tested : (z : ℤ) → pos 0 ≤ℤ z → IsTrue (le_z (pos 0) z)
tested z h = grind (arith, ints)

pub returns : goal.returns
returns c =
    let case = c.args.inst.now in
    let fits : SFits w64 c.row_margin.result = search rules in
    let both = sign case c.args.at.row (row_at case c.args.at.number) c.args.steps c.dial_at.result c.backup_time-backup.result.upper c.dial_at-2.result c.primary_time-primary.result.lower
    (to_z w64 (of_z w64 c.row_margin.result)) (row_is case c.args.at.number c.args.at.row c.requires.place) (to_z-of_z w64 c.row_margin.result fits ∙ c.row_margin.ensures.exact)
    c.dial_at.ensures.exact c.backup_time-backup.ensures.upper c.dial_at-2.ensures.exact c.primary_time-primary.ensures.lower in
    (λ yes. both.0 (below _ yes), λ m. tested _ (both.1 m))
