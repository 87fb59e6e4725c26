-- The lowest settings of a tight box with one pickup step for each relay.
use Rattle.std.specs.Prelude.{slice_index}
use Rattle.std.specs.List.{All, Contains}
use Rattle.std.proofs.Common.{◌≡◌, ◌+◌, ◌≤◌, ◌⊎◌, get_or, arith, sym, ◌∙◌, inl, inr}
use Rattle.std.proofs.Math.Nat.{mul-le-mul_right}
use Rattle.std.proofs.lemmas.Bool.{cases_lt}
use Rattle.std.proofs.lemmas.List.{get_or-map}
use Rattle.std.proofs.lemmas.List.Elements.{Contains-get_or}
use Rattle.coord_model.specs.Choice.{Settings}
use Rattle.coord_model.specs.declared.study.Row.{Row}
use Rattle.margin_rows.specs.Box.{Box, FitsBox, no_steps}
use Rattle.margin_rows.specs.Case.{Case, FitsCase, rows_in}
use Rattle.margin_rows.specs.FirstBox.{IsInFirstBox}
use Rattle.margin_rows.specs.Lowest.{HasOnePickup, lowest_of}
use Rattle.margin_rows.specs.Demands.{asked_ps, fast_part, granted_ps, slow_part}
use Rattle.margin_rows.specs.Margin.{MeetsLoosely, MeetsStrictly, greatest_ps, least_ps}
use Rattle.margin_rows.specs.declared.span.Steps.{Steps}
use Rattle.margin_rows.proofs.Boxed.{allowed_meets, strict_allowed}
use Rattle.margin_rows.proofs.Dialled.{dial_rises}
use Rattle.margin_rows.proofs.LowestSettings.{none_below, same_pickups}
use Rattle.box_range.specs.Drops.{CanMeet, IsTight, MeetsAllLoosely}
use Rattle.box_range.specs.Kinds.{span_at}
use Rattle.box_range.specs.Kinds as side
use Rattle.box_range.specs.declared.kind.Kind.TheVariants.{Dial}
use Rattle.box_range.proofs.Meets.{parts_meet}
use Rattle.box_range.proofs.Places.{relay_counts}
use Rattle.box_range.proofs.Spans.{has_steps, span_has}

-- settings meet a row or they do not
loosely_or_not : (case : Case) (settings : Settings) (row : Row) → MeetsLoosely case settings row ⊎ (MeetsLoosely case settings row → ⊥)
loosely_or_not case settings row = elim (cases_lt (slow_part row.kind (greatest_ps case settings row.fault row.backup) + granted_ps case.study row) (fast_part row.kind (least_ps case settings row.fault row.primary) + asked_ps case.study row)) [
  | inl short ↦ inr (λ meets. omega (arith, meets, short))
  | inr meets ↦ inl meets
]

-- a row that is loosely met stays so with the same pickups, the same dial of the backup and a lower one of the primary
meets_lower : (case : Case) (a b : Settings) (row : Row) → a.pickup ≡ b.pickup → slice_index a.dial row.backup ≡ slice_index b.dial row.backup
    → slice_index b.dial row.primary ≤ slice_index a.dial row.primary → MeetsLoosely case a row → MeetsLoosely case b row
meets_lower case a b row same backup primary meets =
    parts_meet row.kind (greatest_ps case a row.fault row.backup) (greatest_ps case b row.fault row.backup) (least_ps case a row.fault row.primary) (least_ps case b row.fault row.primary)
    (asked_ps case.study row) (granted_ps case.study row) (rw (same, backup) (omega arith)) (rw same (mul-le-mul_right _ (dial_rises case.study row.primary _ _ primary))) meets

-- settings that strictly meet every row loosely meet every row
pub strict_is_loose : (case : Case) (settings : Settings) → FitsCase case → IsInFirstBox case settings → All (MeetsStrictly case settings) (rows_in case) → MeetsAllLoosely case settings
strict_is_loose case settings fits inside met = allowed_meets case settings fits (strict_allowed case settings fits inside met)

module _ (case : Case) (box : Box) (fits : FitsBox case box) (tight : IsTight case box) (one : HasOnePickup box) where
  -- no settings of the box with the lowest dial of the backup meet a row that the lowest settings do not meet
  none_meets : (row : Row) → Contains (rows_in case) row → (MeetsLoosely case (lowest_of box) row → ⊥)
      → CanMeet case box Dial row.backup (span_at Dial box row.backup).low row → ⊥
  none_meets row listed fails can =
      let below = (relay_counts case box row fits listed).backup Dial in
      let low = get_or-map (λ (s : Steps). s.low) box.dial row.backup no_steps 0 below in
      fails (meets_lower case can.settings (lowest_of box) row (same_pickups box can.settings one can.lies) (can.has ∙ sym low) (none_below box can.settings can.lies row.primary) can.meets)

  -- the lowest settings loosely meet every row
  pub lowest_loosely : MeetsAllLoosely case (lowest_of box)
  lowest_loosely = λ k d below. met (get_or (rows_in case) k d) (Contains-get_or (rows_in case) k d below)
    where
      met : (row : Row) → Contains (rows_in case) row → MeetsLoosely case (lowest_of box) row
      met row listed = elim (loosely_or_not case (lowest_of box) row) [
        | inl meets ↦ meets
        | inr fails ↦
            let inside = (relay_counts case box row fits listed).backup Dial in
            absurd (tight.no_drop (record {
              kind = Dial;
              side = side.lowest;
              relay = row.backup;
              span = span_at Dial box row.backup;
              stands = span_has box Dial row.backup inside;
              steps = has_steps box Dial row.backup tight.steps inside;
              droppable = record { row = row; listed = listed; unmet = none_meets row listed fails };
            }))
      ]
