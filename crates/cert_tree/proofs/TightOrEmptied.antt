-- Drops lead from each box that fits a case either to an empty span or to its tight box.
use Rattle.std.specs.List.{Contains}
use Rattle.std.proofs.Common.{◌≡◌, ℕ, zero, suc, ◌-◌, ◌<◌, ◌≤◌, ◌⊎◌, inl, inr, length, arith, sym, ◌∙◌, subst}
use Rattle.std.proofs.lemmas.Bool.{cases_eq, cases_lt}
use Rattle.std.proofs.lemmas.List.{get_or_default}
use Rattle.std.proofs.lemmas.List.Sums.{sum_by-set}
use Rattle.coord_model.specs.declared.study.Row.{Row}
use Rattle.margin_rows.specs.Box.{Box, FitsBox, HasEmptySpan, HasNoEmptySpan, IsEmpty, IsFilled, IsIn, no_steps}
use Rattle.margin_rows.specs.Case.{Case, FitsCase, row_at, rows_in}
use Rattle.margin_rows.specs.declared.span.Steps.{Steps}
use Rattle.margin_rows.proofs.Listed.{at_number}
use Rattle.margin_rows.proofs.Within.{fits_within}
use Rattle.box_range.specs.Drops.{Drop, IsEmptied, TightensTo, dropped, next, none}
use Rattle.box_range.specs.Kinds.{Side, highest, lowest, span_at, spans_of, with_span, without_end}
use Rattle.box_range.specs.Meeting.{HasRelays, IsMeetable, MeetsWith, best_steps, with_step}
use Rattle.box_range.specs.Rounds.{AreSettled}
use Rattle.box_range.specs.Settled.{IsSettled, MeetsAtHigh, MeetsAtLow, size, width}
use Rattle.box_range.specs.declared.kind.Kind.{Kind}
use Rattle.box_range.specs.declared.kind.Kind.TheVariants.{Pickup, Dial}
use Rattle.box_range.specs.declared.row.Part.TheVariants.{Backup, Primary}
use Rattle.box_range.specs.declared.row.RowSteps.{RowSteps}
use Rattle.box_range.proofs.Cuts.{both_kinds}
use Rattle.box_range.proofs.Meets.{best_meetable, can_with, high_meets, low_meets, meetable_best, with_can}
use Rattle.box_range.proofs.Order.{drop_within}
use Rattle.box_range.proofs.Places.{asks_backup, asks_primary, relay_counts}
use Rattle.box_range.proofs.Spans.{has_empty, has_span, has_steps, span_has, steps_have}
use Rattle.box_range.proofs.Tight.{tight_of}

-- a number is at most another, or it is not
pub le_or : (a b : ℕ) → (a ≤ b) ⊎ (a ≤ b → ⊥)
le_or a b = elim (cases_lt b a) [ inl more ↦ inr (λ most. omega (arith, more, most)) | inr most ↦ inl most ]

-- the one is true of each number below a count, or the other of some
pub each_or : (P Q : ℕ → Type 0) (n : ℕ) → ((i : ℕ) → i < n → P i ⊎ Q i) → ((i : ℕ) → i < n → P i) ⊎ ((i : ℕ) × (i < n) × Q i)
each_or P Q zero one = inl (λ i below. absurd (omega (arith, below)))
each_or P Q (suc n) one = elim (each_or P Q n (λ i below. one i (omega (arith, below)))) [
  | inl all ↦ elim (one n (omega arith)) [
    | inl here ↦ inl (λ i below. elim (cases_eq i n) [
      | inl same ↦ subst P (sym same) here
      | inr apart ↦ all i (omega (arith, below, apart))
    ])
    | inr found ↦ inr (n, omega arith, found)
  ]
  | inr found ↦ inr (found.0, omega (arith, found.1), found.2)
]

module _ (case : Case) (box : Box) (row : Row) (filled : IsFilled case box) (there : Contains (rows_in case) row) where
  relays : HasRelays box row
  relays = relay_counts case box row filled.fits there

  meets_or : (steps : RowSteps) → MeetsWith case row steps ⊎ (MeetsWith case row steps → ⊥)
  meets_or steps = le_or _ _

  meetable_or : IsMeetable case box row ⊎ (IsMeetable case box row → ⊥)
  meetable_or = elim (meets_or (best_steps box row)) [
    | inl meets ↦ inl (best_meetable case box row filled there meets)
    | inr unmet ↦ inr (λ m. unmet (meetable_best case box row filled there m))
  ]

  low_in : (kind : Kind) → IsIn (span_at kind box row.backup) (span_at kind box row.backup).low
  low_in kind = record { from = omega arith; before = has_steps box kind row.backup filled.steps (relays.backup kind) }

  high_in : (kind : Kind) → IsIn (span_at kind box row.primary) ((span_at kind box row.primary).past - 1)
  high_in kind =
      let some = has_steps box kind row.primary filled.steps (relays.primary kind) in
      record { from = omega (arith, some); before = omega (arith, some) }

  -- whether the row can be met with the end of each span that it can make useless
  low_or : (kind : Kind) → MeetsAtLow case box row kind ⊎ (MeetsAtLow case box row kind → ⊥)
  low_or kind = elim (asks_backup case row there) [
    | inl asks ↦ elim (meets_or (with_step Backup kind (best_steps box row) (span_at kind box row.backup).low)) [
      | inl meets ↦ inl (with_can case box row filled there Backup kind (span_at kind box row.backup).low asks (low_in kind) meets)
      | inr unmet ↦ inr (λ m. unmet (can_with case box row filled there Backup kind (span_at kind box row.backup).low m))
    ]
    | inr other ↦ elim meetable_or [
      | inl m ↦ inl (low_meets case box row filled there other.0 other.1 kind m)
      | inr unmet ↦ inr (λ m. unmet (record { settings = m.settings; lies = m.lies; meets = m.meets }))
    ]
  ]

  high_or : (kind : Kind) → MeetsAtHigh case box row kind ⊎ (MeetsAtHigh case box row kind → ⊥)
  high_or kind = elim (asks_primary case row there) [
    | inl asks ↦ elim (meets_or (with_step Primary kind (best_steps box row) ((span_at kind box row.primary).past - 1))) [
      | inl meets ↦ inl (with_can case box row filled there Primary kind ((span_at kind box row.primary).past - 1) asks (high_in kind) meets)
      | inr unmet ↦ inr (λ m. unmet (can_with case box row filled there Primary kind ((span_at kind box row.primary).past - 1) m))
    ]
    | inr other ↦ elim meetable_or [
      | inl m ↦ inl (high_meets case box row filled there other.0 other.1 kind m)
      | inr unmet ↦ inr (λ m. unmet (record { settings = m.settings; lies = m.lies; meets = m.meets }))
    ]
  ]

  -- if it cannot, there is a drop
  low_drop : (kind : Kind) → MeetsAtLow case box row kind ⊎ Drop case box
  low_drop kind = elim (low_or kind) [
    | inl meets ↦ inl meets
    | inr unmet ↦ inr (record {
      kind = kind;
      side = lowest;
      relay = row.backup;
      span = span_at kind box row.backup;
      stands = span_has box kind row.backup (relays.backup kind);
      steps = has_steps box kind row.backup filled.steps (relays.backup kind);
      droppable = record { row = row; listed = there; unmet = unmet };
    })
  ]

  high_drop : (kind : Kind) → MeetsAtHigh case box row kind ⊎ Drop case box
  high_drop kind = elim (high_or kind) [
    | inl meets ↦ inl meets
    | inr unmet ↦ inr (record {
      kind = kind;
      side = highest;
      relay = row.primary;
      span = span_at kind box row.primary;
      stands = span_has box kind row.primary (relays.primary kind);
      steps = has_steps box kind row.primary filled.steps (relays.primary kind);
      droppable = record { row = row; listed = there; unmet = unmet };
    })
  ]

  -- the row is settled in the box, or there is a drop
  settled_or : IsSettled case box row ⊎ Drop case box
  settled_or = elim (low_drop Pickup) [
    | inr drop ↦ inr drop
    | inl low_pickup ↦ elim (low_drop Dial) [
      | inr drop ↦ inr drop
      | inl low_dial ↦ elim (high_drop Pickup) [
        | inr drop ↦ inr drop
        | inl high_pickup ↦ elim (high_drop Dial) [
          | inr drop ↦ inr drop
          | inl high_dial ↦ inl (record {
            low = both_kinds (λ kind. MeetsAtLow case box row kind) low_pickup low_dial;
            high = both_kinds (λ kind. MeetsAtHigh case box row kind) high_pickup high_dial;
          })
        ]
      ]
    ]
  ]

-- a drop leaves fewer steps
less_width : (side : Side) (span : Steps) → span.low < span.past → width (without_end side span) < width span
less_width lowest span some = omega (arith, some)
less_width highest span some = omega (arith, some)

less_size : (kind : Kind) (box : Box) (relay : ℕ) (span : Steps) → relay < length (spans_of kind box) → width span < width (span_at kind box relay)
    → size (with_span kind box relay span) < size box
less_size Pickup box relay span below less = omega (arith, less, sum_by-set width box.pickup relay span no_steps below)
less_size Dial box relay span below less = omega (arith, less, sum_by-set width box.dial relay span no_steps below)

drop_less : (case : Case) (box : Box) (drop : Drop case box) → size (dropped case box drop) < size box
drop_less case box drop =
    let at = has_span box drop.kind drop.relay drop.span drop.stands in
    less_size drop.kind box drop.relay (without_end drop.side drop.span) at.0 (rw at.1 (less_width drop.side drop.span drop.steps))

kind_or : (box : Box) (kind : Kind) → ((relay : ℕ) → relay < length (spans_of kind box) → (span_at kind box relay).low < (span_at kind box relay).past)
    ⊎ ((relay : ℕ) × (relay < length (spans_of kind box)) × IsEmpty (span_at kind box relay))
kind_or box kind =
    each_or (λ relay. (span_at kind box relay).low < (span_at kind box relay).past) (λ relay. IsEmpty (span_at kind box relay)) (length (spans_of kind box))
    (λ relay below. cases_lt (span_at kind box relay).low (span_at kind box relay).past)

-- a box has an empty span, or a step in each
pub empty_or : (box : Box) → HasEmptySpan box ⊎ HasNoEmptySpan box
empty_or box = elim (kind_or box Pickup) [
  | inr found ↦ inl (has_empty box Pickup found.0 found.1 found.2)
  | inl pickups ↦ elim (kind_or box Dial) [
    | inr found ↦ inl (has_empty box Dial found.0 found.1 found.2)
    | inl dials ↦ inr (steps_have box (both_kinds (λ kind. (relay : ℕ) → relay < length (spans_of kind box) → (span_at kind box relay).low < (span_at kind box relay).past) pickups dials))
  ]
]

module _ (case : Case) (limits : FitsCase case) where
  rows_or : (box : Box) → IsFilled case box → AreSettled case box ⊎ Drop case box
  rows_or box filled =
      elim (each_or (λ i. IsSettled case box (row_at case i)) (λ i. Drop case box) (length (rows_in case)) (λ i below. settled_or case box (row_at case i) filled (at_number case i below))) [
        | inl all ↦ inl (λ row there.
            let same : row_at case there.0 ≡ row = get_or_default (rows_in case) there.0 _ row there.1 ∙ there.2 in
            subst (λ (r : Row). IsSettled case box r) same (all there.0 there.1))
        | inr found ↦ inr found.2
      ]

  ended : (n : ℕ) (box : Box) → FitsBox case box → size box < n → IsEmptied case box ⊎ ((tight : Box) × TightensTo case box tight)
  ended zero box fits few = absurd (omega (arith, few))
  ended (suc n) box fits few = elim (empty_or box) [
    | inl empty ↦ inl (record { end = box; drops = none; empty = empty })
    | inr steps ↦ elim (rows_or box (record { limits = limits; fits = fits; steps = steps })) [
      | inl settled ↦ inr (box, record { led = none; no_more = tight_of case box (record { limits = limits; fits = fits; steps = steps }) settled })
      | inr drop ↦ elim (ended n (dropped case box drop) (fits_within case (dropped case box drop) box (drop_within case box drop) fits) (omega (arith, drop_less case box drop, few))) [
        | inl gone ↦ inl (record { end = gone.end; drops = next drop gone.drops; empty = gone.empty })
        | inr found ↦ inr (found.0, record { led = next drop found.1.led; no_more = found.1.no_more })
      ]
    ]
  ]

  -- a box that fits is emptied, or has a tight box
  pub emptied_or_tight : (box : Box) → FitsBox case box → IsEmptied case box ⊎ ((tight : Box) × TightensTo case box tight)
  emptied_or_tight box fits = ended (suc (size box)) box fits (omega arith)
