-- What a visit of one row leaves of the others.
use Rattle.std.specs.Prelude.{slice_index_or}
use Rattle.std.specs.List.{Contains}
use Rattle.std.proofs.Common.{◌≡◌, ℕ, ◌-◌, ◌⊎◌, inl, inr, Bool, true, false, List, length, arith, refl, sym, subst}
use Rattle.std.proofs.lemmas.Bool.{cases_eq}
use Rattle.coord_model.specs.declared.study.Row.{Row}
use Rattle.margin_rows.specs.Box.{Box, IsIn, IsFilled}
use Rattle.margin_rows.specs.Case.{Case, rows_in, FitsCase}
use Rattle.margin_rows.specs.declared.span.Steps.{Steps}
use Rattle.margin_rows.proofs.Listed.{row_facts}
use Rattle.box_range.specs.Drops.{CanMeet}
use Rattle.box_range.specs.Kinds.{span_at}
use Rattle.box_range.specs.Looks.{IsSettling, IsUnmoved}
use Rattle.box_range.specs.Meeting.{Asks, MeetsWith, best_steps, with_step, relay_of}
use Rattle.box_range.specs.Rounds.{IsDue, IsDueOrSettled, HasPlaces, AreFlagged, IsBusy}
use Rattle.box_range.specs.Settled.{IsSettled}
use Rattle.box_range.specs.declared.kind.Kind.{Kind}
use Rattle.box_range.specs.declared.kind.Kind.TheVariants.{Pickup, Dial}
use Rattle.box_range.specs.declared.look.Moved.{Moved}
use Rattle.box_range.specs.declared.row.Part.{Part}
use Rattle.box_range.specs.declared.row.Part.TheVariants.{Backup, Primary}
use Rattle.box_range.specs.declared.row.RowSteps.{RowSteps}
use Rattle.box_range.proofs.Meets.{with_can, can_with, can_in}
use Rattle.box_range.proofs.Places.{asks_backup, asks_primary}

-- a row is settled still where its relays' spans are as before
module _ (case : Case) (box later : Box) (row : Row) (filled : IsFilled case box) (filled_later : IsFilled case later) (there : Contains (rows_in case) row)
    (same_backup : (kind : Kind) → span_at kind later row.backup ≡ span_at kind box row.backup)
    (same_primary : (kind : Kind) → span_at kind later row.primary ≡ span_at kind box row.primary) where
  same_best : best_steps later row ≡ best_steps box row
  same_best = let a = same_backup Pickup in let b = same_backup Dial in let c = same_primary Pickup in let d = same_primary Dial in rw (a, b, c, d)

  same_relay : (part : Part) (kind : Kind) → span_at kind later (relay_of part row) ≡ span_at kind box (relay_of part row)
  same_relay Backup kind = same_backup kind
  same_relay Primary kind = same_primary kind

  still_can : (part : Part) (kind : Kind) (step : ℕ) → Asks row.kind part → CanMeet case box kind (relay_of part row) step row → CanMeet case later kind (relay_of part row) step row
  still_can part kind step asks m =
      let is = can_in case box row filled there part kind step m in
      let meets = can_with case box row filled there part kind step m in
      with_can case later row filled_later there part kind step asks (subst (λ (s : Steps). IsIn s step) (sym (same_relay part kind)) is)
      (subst (λ (s : RowSteps). MeetsWith case row (with_step part kind s step)) (sym same_best) meets)

  still_low : (kind : Kind) (step : ℕ) → CanMeet case box kind row.backup step row → CanMeet case later kind row.backup step row
  still_low kind step m = elim (asks_backup case row there) [
    | inl asks ↦ still_can Backup kind step asks m
    | inr other ↦ subst (λ (r : ℕ). CanMeet case later kind r step row) (sym other.1) (still_can Primary kind step other.0 (subst (λ (r : ℕ). CanMeet case box kind r step row) other.1 m))
  ]

  still_high : (kind : Kind) (step : ℕ) → CanMeet case box kind row.primary step row → CanMeet case later kind row.primary step row
  still_high kind step m = elim (asks_primary case row there) [
    | inl asks ↦ still_can Primary kind step asks m
    | inr other ↦ subst (λ (r : ℕ). CanMeet case later kind r step row) other.1 (still_can Backup kind step other.0 (subst (λ (r : ℕ). CanMeet case box kind r step row) (sym other.1) m))
  ]

  pub still_settled : IsSettled case box row → IsSettled case later row
  still_settled settled = record {
    low = λ kind. subst (λ (s : Steps). CanMeet case later kind row.backup s.low row) (sym (same_backup kind)) (still_low kind (span_at kind box row.backup).low (settled.low kind));
    high = λ kind. subst (λ (s : Steps). CanMeet case later kind row.primary (s.past - 1) row) (sym (same_primary kind)) (still_high kind ((span_at kind box row.primary).past - 1) (settled.high kind));
  }

pub row_places : (case : Case) (flags : List Bool) (row : Row) → FitsCase case → Contains (rows_in case) row → length flags ≡ 96 → HasPlaces flags row
row_places case flags row fits there count =
    let facts = row_facts case row there in
    record { backup = omega (arith, facts.backup, fits.study.relay_count.at_most, count); primary = omega (arith, facts.primary, fits.study.relay_count.at_most, count) }

moved_or_not : (b : Bool) → (b ≡ true) ⊎ (b ≡ false)
moved_or_not true = inl refl
moved_or_not false = inr refl

-- a relay has the spans it had, or is flagged
same_or_flagged : (row : Row) (moved : Moved) (flags later : List Bool) (relay : ℕ) → AreFlagged row moved flags later
    → IsUnmoved row moved relay ⊎ (slice_index_or later relay false ≡ true)
same_or_flagged row moved flags later relay flagged =
    elim (one relay row.backup moved.backup flagged.backup) [
      | inr at ↦ inr at
      | inl backup ↦ elim (one relay row.primary moved.primary flagged.primary) [
        | inr at ↦ inr at
        | inl primary ↦ inl (record { backup = backup; primary = primary })
      ]
    ]
  where
    one : (relay at : ℕ) (b : Bool) → (b ≡ true → slice_index_or later at false ≡ true) → (relay ≡ at → b ≡ false) ⊎ (slice_index_or later relay false ≡ true)
    one relay at b flag =
        elim (moved_or_not b) [
          | inr no_move ↦ inl (λ same. no_move)
          | inl move ↦ elim (cases_eq relay at) [ inl same ↦ inr (rw same (flag move)) | inr other ↦ inl (λ same. absurd (other same)) ]
        ]

still_due : (row other : Row) (moved : Moved) (flags later : List Bool) → AreFlagged row moved flags later → IsDue flags other → IsDue later other
still_due row other moved flags later flagged due = elim due [ inl b ↦ inl (flagged.kept other.backup b) | inr p ↦ inr (flagged.kept other.primary p) ]

others_left : (case : Case) (row : Row) (box later : Box) (moved : Moved) (flags later_flags : List Bool) → IsFilled case box → IsSettling case row box later moved
    → AreFlagged row moved flags later_flags → (other : Row) → Contains (rows_in case) other → IsDueOrSettled case box flags other → IsDueOrSettled case later later_flags other
others_left case row box later moved flags later_flags filled settling flagged other there was =
    elim was [
      | inl due ↦ inl (still_due row other moved flags later_flags flagged due)
      | inr settled ↦ elim (same_or_flagged row moved flags later_flags other.backup flagged) [
        | inr at ↦ inl (inl at)
        | inl backup ↦ elim (same_or_flagged row moved flags later_flags other.primary flagged) [
          | inr at ↦ inl (inr at)
          | inl primary ↦ inr (still_settled case box later other filled settling.filled there (settling.elsewhere other.backup backup) (settling.elsewhere other.primary primary) settled)
        ]
      ]
    ]

pub busy : (case : Case) (row : Row) (box later : Box) (moved : Moved) (flags later_flags : List Bool) → IsFilled case box → IsSettling case row box later moved
    → AreFlagged row moved flags later_flags → (moved.backup ≡ true) ⊎ (moved.primary ≡ true) → IsBusy case row box later flags later_flags
busy case row box later moved flags later_flags filled settling flagged some = record {
  filled = settling.filled;
  fewer = settling.fewer some;
  count = flagged.count;
  settled = settling.settled;
  others = others_left case row box later moved flags later_flags filled settling flagged;
}
