use Rattle.std.specs.Prelude.{IsTrue, slice_index, ℤ, pos, ◌≤ℤ◌}
use Rattle.std.specs.Int.Signed.{le_z}
use mir.Syntax.{w64}
use mir.Val.{SFits, of_z, to_z}
use Rattle.std.proofs.Common.{◌≡◌, ◌↔◌, ◌*◌, ℕ, ◌∙◌, arith, rules, subst, sym}
use Rattle.std.proofs.lemmas.Int.{ints, to_z-of_z}
use Rattle.coord_model.specs.Dial.{dial_at_step}
use Rattle.coord_model.specs.declared.study.Row.{Row}
use Rattle.margin_rows.specs.Box.{Box, IsDialStep}
use Rattle.margin_rows.specs.Case.{Case, row_at}
use Rattle.margin_rows.specs.FirstBox.{IsFirstStep}
use Rattle.margin_rows.specs.Lowest.{lowest_of}
use Rattle.margin_rows.specs.Margin.{MeetsStrictly, margin_of}
use Rattle.margin_rows.specs.Times.{time_at}
use Rattle.margin_rows.proofs.Boxed.{pickup_first}
use Rattle.margin_rows.proofs.Dialled.{dial_on_step}
use Rattle.margin_rows.proofs.LowestSettings.{lowest_first}
use Rattle.margin_rows.proofs.Placed.{margin_sign}
use Rattle.margin_rows.proofs.lowest.lowest_meet.Goals as goal
use Rattle.margin_rows.proofs.lowest.lowest_meet.Goals.{After-row_margin}

pub low_pickup-requires-clause-relay : goal.low_pickup-requires-clause-relay
low_pickup-requires-clause-relay c = omega (arith, c.row-at.ensures.backup, c.requires.fits.pickups)

pub low_pickup-requires-2-clause-relay : goal.low_pickup-requires-2-clause-relay
low_pickup-requires-2-clause-relay c = omega (arith, c.row-at.ensures.primary, c.requires.fits.pickups)

pub low_dial-requires-clause-relay : goal.low_dial-requires-clause-relay
low_dial-requires-clause-relay c = omega (arith, c.row-at.ensures.backup, c.requires.fits.dials)

pub low_dial-requires-2-clause-relay : goal.low_dial-requires-2-clause-relay
low_dial-requires-2-clause-relay c = omega (arith, c.row-at.ensures.primary, c.requires.fits.dials)

pub backup_time-backup-requires-clause-step : goal.backup_time-backup-requires-clause-step
backup_time-backup-requires-clause-step c =
    let case = c.args.inst.now in
    let box = c.args.ranges.now in
    let P : Row → Type 0 = λ r. IsFirstStep case r.backup c.low_pickup.result in
    let Q : ℕ → Type 0 = λ s. IsFirstStep case c.row-at.result.backup s in
    subst P c.row-at.ensures.exact (subst Q (sym c.low_pickup.ensures) (pickup_first case (lowest_of box) c.row-at.result.backup (lowest_first case box c.requires.fits c.requires.steps) c.row-at.ensures.backup))

pub primary_time-primary-requires-clause-step : goal.primary_time-primary-requires-clause-step
primary_time-primary-requires-clause-step c =
    let case = c.args.inst.now in
    let box = c.args.ranges.now in
    let P : Row → Type 0 = λ r. IsFirstStep case r.primary c.low_pickup-2.result in
    let Q : ℕ → Type 0 = λ s. IsFirstStep case c.row-at.result.primary s in
    subst P c.row-at.ensures.exact (subst Q (sym c.low_pickup-2.ensures) (pickup_first case (lowest_of box) c.row-at.result.primary (lowest_first case box c.requires.fits c.requires.steps) c.row-at.ensures.primary))

pub dial_at-requires : goal.dial_at-requires
dial_at-requires c =
    let case = c.args.inst.now in
    let box = c.args.ranges.now in
    let Q : ℕ → Type 0 = λ s. IsDialStep case c.row-at.result.backup s in
    subst Q (sym c.low_dial.ensures) (dial_on_step case (lowest_of box) c.row-at.result.backup (lowest_first case box c.requires.fits c.requires.steps).on_steps c.row-at.ensures.backup)

pub dial_at-requires-2 : goal.dial_at-requires-2
dial_at-requires-2 c =
    let case = c.args.inst.now in
    let box = c.args.ranges.now in
    let Q : ℕ → Type 0 = λ s. IsDialStep case c.row-at.result.primary s in
    subst Q (sym c.low_dial-2.ensures) (dial_on_step case (lowest_of box) c.row-at.result.primary (lowest_first case box c.requires.fits c.requires.steps).on_steps c.row-at.ensures.primary)

-- the margin of the lowest settings is at least 0 exactly where they strictly meet the row
sign : (case : Case) (box : Box) (r at : Row) (pb pp sb sp db dp tb tp slow fast : ℕ) (z : ℤ) → at ≡ r → z ≡ margin_of case.study r slow fast → slow ≡ db * tb → fast ≡ dp * tp
    → db ≡ dial_at_step case.study at.backup sb → sb ≡ slice_index (lowest_of box).dial at.backup → tb ≡ (time_at case r.fault r.backup pb).lower → pb ≡ slice_index (lowest_of box).pickup at.backup
    → dp ≡ dial_at_step case.study at.primary sp → sp ≡ slice_index (lowest_of box).dial at.primary → tp ≡ (time_at case r.fault r.primary pp).upper → pp ≡ slice_index (lowest_of box).pickup at.primary
    → (pos 0 ≤ℤ z) ↔ MeetsStrictly case (lowest_of box) r
sign case box r at pb pp sb sp db dp tb tp slow fast z same is s f d1 d2 d3 d4 e1 e2 e3 e4 =
    let d1r = rw same at d1 in
    let d2r = rw same at d2 in
    let d4r = rw same at d4 in
    let e1r = rw same at e1 in
    let e2r = rw same at e2 in
    let e4r = rw same at e4 in
    rw (is, s, f, d1r, d2r, d3, d4r, e1r, e2r, e3, e4r) (margin_sign case.study r _ _)

both : (c : After-row_margin) → (pos 0 ≤ℤ to_z w64 (of_z w64 c.row_margin.result)) ↔ MeetsStrictly c.args.inst.now (lowest_of c.args.ranges.now) (row_at c.args.inst.now c.args.row)
both c =
    let case = c.args.inst.now in
    let fits : SFits w64 c.row_margin.result = search rules in
    sign case c.args.ranges.now (row_at case c.args.row) c.row-at.result c.low_pickup.result c.low_pickup-2.result c.low_dial.result c.low_dial-2.result c.dial_at.result c.dial_at-2.result
    c.backup_time-backup.result.lower c.primary_time-primary.result.upper c.at_dial-slow.result.lower c.at_dial-fast.result.upper _ c.row-at.ensures.exact
    (to_z-of_z w64 c.row_margin.result fits ∙ c.row_margin.ensures.exact) c.at_dial-slow.ensures.lower c.at_dial-fast.ensures.upper
    c.dial_at.ensures.exact c.low_dial.ensures c.backup_time-backup.ensures.lower c.low_pickup.ensures c.dial_at-2.ensures.exact c.low_dial-2.ensures c.primary_time-primary.ensures.upper c.low_pickup-2.ensures

below : (z : ℤ) → IsTrue (le_z (pos 0) z) → pos 0 ≤ℤ z
below z h = grind (arith, ints)

tested : (z : ℤ) → pos 0 ≤ℤ z → IsTrue (le_z (pos 0) z)
tested z h = grind (arith, ints)

pub returns-clause-met : goal.returns-clause-met
returns-clause-met c = λ yes. (both c).0 (below _ yes)

pub returns-clause-unmet : goal.returns-clause-unmet
returns-clause-unmet c = λ no met. let absurdly = tested _ ((both c).1 met) in cc
