-- A box whose rows are settled is tight.
use Rattle.std.specs.Prelude.{slice_index}
use Rattle.std.specs.List.{Contains}
use Rattle.std.proofs.Common.{◌≡◌, ◌≢◌, ℕ, ◌-◌, ◌<◌, inl, inr, List, length, set, get_or, arith, sym, ◌∙◌, subst}
use Rattle.std.proofs.lemmas.Bool.{cases_eq}
use Rattle.std.proofs.lemmas.List.{length-set, get_or-set_same, get_or-set_other}
use Rattle.coord_model.specs.Choice.{Settings}
use Rattle.coord_model.specs.declared.study.Row.{Row}
use Rattle.margin_rows.specs.Box.{Box, IsIn, AreIn, LiesIn, IsFilled, no_steps}
use Rattle.margin_rows.specs.Case.{Case, rows_in}
use Rattle.margin_rows.specs.declared.span.Steps.{Steps}
use Rattle.box_range.specs.Drops.{CanMeet, IsTight}
use Rattle.box_range.specs.Kinds.{spans_of, step_of, span_at, Side, lowest, highest, end_of}
use Rattle.box_range.specs.Meeting.{MeetsWith}
use Rattle.box_range.specs.Rounds.{AreSettled}
use Rattle.box_range.specs.Settled.{IsSettled}
use Rattle.box_range.specs.declared.kind.Kind.{Kind}
use Rattle.box_range.specs.declared.kind.Kind.TheVariants.{Pickup, Dial}
use Rattle.box_range.specs.declared.row.RowSteps.{RowSteps}
use Rattle.box_range.proofs.Meets.{steps_at, can_rise, can_fall}
use Rattle.box_range.proofs.Places.{asks_backup, asks_primary}
use Rattle.box_range.proofs.Spans.{has_span}
use Rattle.margin_rows.proofs.Within.{each_some, some_each}

-- the settings with another step for one setting of a relay
with_setting : Kind → Settings → ℕ → ℕ → Settings
with_setting Pickup settings relay step = record { pickup = set settings.pickup relay step; dial = settings.dial }
with_setting Dial settings relay step = record { pickup = settings.pickup; dial = set settings.dial relay step }

set_in : (spans : List Steps) (steps : List ℕ) (relay step : ℕ) → relay < length spans → AreIn spans steps → IsIn (get_or spans relay no_steps) step → AreIn spans (set steps relay step)
set_in spans steps relay step below are is = record {
  count = length-set steps relay step ∙ are.count;
  each = each_some spans (λ i span. IsIn span (slice_index (set steps relay step) i)) no_steps (λ i inside.
      elim (cases_eq i relay) [
        | inl same ↦
            let there : relay < length steps = omega (arith, below, are.count) in
            rw same (rw (get_or-set_same steps relay step 0 there) is)
        | inr other ↦ rw (get_or-set_other steps relay i step 0 other) (some_each spans (λ j span. IsIn span (slice_index steps j)) no_steps are.each i inside)
      ]);
}

setting_lies : (kind : Kind) (box : Box) (settings : Settings) (relay step : ℕ) → relay < length (spans_of kind box) → LiesIn box settings → IsIn (span_at kind box relay) step
    → LiesIn box (with_setting kind settings relay step)
unfolding with_setting
setting_lies Pickup box settings relay step below h is = record { pickup = set_in box.pickup settings.pickup relay step below h.pickup is; dial = h.dial }
setting_lies Dial box settings relay step below h is = record { pickup = h.pickup; dial = set_in box.dial settings.dial relay step below h.dial is }

setting_has : (kind : Kind) (box : Box) (settings : Settings) (relay step : ℕ) → relay < length (spans_of kind box) → LiesIn box settings
    → step_of kind (with_setting kind settings relay step) relay ≡ step
unfolding with_setting
setting_has Pickup box settings relay step below h = let there : relay < length settings.pickup = omega (arith, below, h.pickup.count) in get_or-set_same settings.pickup relay step 0 there
setting_has Dial box settings relay step below h = let there : relay < length settings.dial = omega (arith, below, h.dial.count) in get_or-set_same settings.dial relay step 0 there

setting_steps : (kind : Kind) (settings : Settings) (row : Row) (relay step : ℕ) → row.backup ≢ relay → row.primary ≢ relay
    → steps_at (with_setting kind settings relay step) row ≡ steps_at settings row
unfolding with_setting
setting_steps Pickup settings row relay step b p = let e = get_or-set_other settings.pickup relay row.backup step 0 b in let f = get_or-set_other settings.pickup relay row.primary step 0 p in rw (e, f)
setting_steps Dial settings row relay step b p = let e = get_or-set_other settings.dial relay row.backup step 0 b in let f = get_or-set_other settings.dial relay row.primary step 0 p in rw (e, f)

-- a row that can be met can be met with each step of a relay that is none of its two
other_can : (case : Case) (box : Box) (row : Row) (kind : Kind) (relay step known at : ℕ) (of : Kind) → row.backup ≢ relay → row.primary ≢ relay → relay < length (spans_of kind box)
    → IsIn (span_at kind box relay) step → CanMeet case box of at known row → CanMeet case box kind relay step row
other_can case box row kind relay step known at of b p below is m = record {
  settings = with_setting kind m.settings relay step;
  lies = setting_lies kind box m.settings relay step below m.lies is;
  has = setting_has kind box m.settings relay step below m.lies;
  meets = subst (λ (s : RowSteps). MeetsWith case row s) (sym (setting_steps kind m.settings row relay step b p)) m.meets;
}

end_in : (side : Side) (span : Steps) → span.low < span.past → IsIn span (end_of side span)
end_in lowest span some = record { from = omega arith; before = some }
end_in highest span some = record { from = omega (arith, some); before = omega (arith, some) }

module _ (case : Case) (box : Box) (row : Row) (filled : IsFilled case box) (there : Contains (rows_in case) row) (settled : IsSettled case box row) where
  backup_can : (side : Side) (kind : Kind) → (span_at kind box row.backup).low < (span_at kind box row.backup).past → CanMeet case box kind row.backup (end_of side (span_at kind box row.backup)) row
  backup_can lowest kind some = settled.low kind
  backup_can highest kind some = elim (asks_backup case row there) [
    | inl asks ↦ can_rise case box row filled there asks kind (span_at kind box row.backup).low ((span_at kind box row.backup).past - 1) (omega (arith, some)) (omega (arith, some)) (settled.low kind)
    | inr other ↦ subst (λ (r : ℕ). CanMeet case box kind r ((span_at kind box r).past - 1) row) (sym other.1) (settled.high kind)
  ]

  primary_can : (side : Side) (kind : Kind) → (span_at kind box row.primary).low < (span_at kind box row.primary).past → CanMeet case box kind row.primary (end_of side (span_at kind box row.primary)) row
  primary_can highest kind some = settled.high kind
  primary_can lowest kind some = elim (asks_primary case row there) [
    | inl asks ↦ can_fall case box row filled there asks kind ((span_at kind box row.primary).past - 1) (span_at kind box row.primary).low (omega (arith, some)) (omega arith) (settled.high kind)
    | inr other ↦ subst (λ (r : ℕ). CanMeet case box kind r (span_at kind box r).low row) other.1 (settled.low kind)
  ]

  end_can : (side : Side) (kind : Kind) (relay : ℕ) → relay < length (spans_of kind box) → (span_at kind box relay).low < (span_at kind box relay).past
      → CanMeet case box kind relay (end_of side (span_at kind box relay)) row
  end_can side kind relay below some =
      elim (cases_eq row.backup relay) [
        | inl same ↦ subst (λ (r : ℕ). CanMeet case box kind r (end_of side (span_at kind box r)) row) same
            (backup_can side kind (subst (λ (r : ℕ). (span_at kind box r).low < (span_at kind box r).past) (sym same) some))
        | inr not_backup ↦ elim (cases_eq row.primary relay) [
          | inl same ↦ subst (λ (r : ℕ). CanMeet case box kind r (end_of side (span_at kind box r)) row) same
              (primary_can side kind (subst (λ (r : ℕ). (span_at kind box r).low < (span_at kind box r).past) (sym same) some))
          | inr not_primary ↦ other_can case box row kind relay (end_of side (span_at kind box relay)) (span_at Pickup box row.backup).low row.backup Pickup not_backup not_primary below
              (end_in side (span_at kind box relay) some) (settled.low Pickup)
        ]
      ]

pub tight_of : (case : Case) (box : Box) → IsFilled case box → AreSettled case box → IsTight case box
tight_of case box filled settled = record {
  steps = filled.steps;
  no_drop = λ drop.
      let at = has_span box drop.kind drop.relay drop.span drop.stands in
      let row = drop.droppable.row in
      let some : (span_at drop.kind box drop.relay).low < (span_at drop.kind box drop.relay).past = rw at.1 drop.steps in
      let can = end_can case box row filled drop.droppable.listed (settled row drop.droppable.listed) drop.side drop.kind drop.relay at.0 some in
      drop.droppable.unmet (rw at.1 at can);
}
