-- Cutting steps off an end of a span, one drop after the other.
use Rattle.std.proofs.Common.{◌≡◌, ℕ, zero, suc, ◌+◌, ◌-◌, ◌<◌, ◌≤◌, length, arith, refl, sym, subst, inl, inr}
use Rattle.std.specs.List.{Contains}
use Rattle.std.proofs.lemmas.Bool.{cases_lt}
use Rattle.coord_model.specs.declared.study.Row.{Row}
use Rattle.margin_rows.specs.Box.{Box, FitsBox, IsFilled}
use Rattle.margin_rows.specs.Case.{Case, rows_in}
use Rattle.margin_rows.specs.declared.span.Steps.{Steps}
use Rattle.box_range.specs.Drops.{CanMeet, IsDroppable, Drop, Drops, none, next}
use Rattle.box_range.specs.Kinds.{spans_of, step_of, span_at, with_span, lowest, highest}
use Rattle.box_range.specs.Meeting.{IsMeetable}
use Rattle.box_range.specs.Settled.{IsCut, MeetsAtLow, MeetsAtHigh}
use Rattle.box_range.specs.declared.kind.Kind.{Kind}
use Rattle.box_range.specs.declared.kind.Kind.TheVariants.{Pickup, Dial}
use Rattle.box_range.proofs.Order.{drops_within, drops_drops}
use Rattle.box_range.proofs.Places.{relay_counts}
use Rattle.box_range.proofs.Spans.{span_has, steps_have, lies_at, with_count, with_same, with_twice, with_own}
use Rattle.margin_rows.proofs.Within.{fits_within}
use Rattle.box_range.proofs.Within.{by_kind, narrowed_within, droppable_within, lies_narrowed}

-- the lowest n steps of a span are dropped where each of them is droppable
low_chain : (case : Case) (kind : Kind) (n : ℕ) (box : Box) (relay low past : ℕ) → relay < length (spans_of kind box) → span_at kind box relay ≡ (record { low = low; past = past })
    → low + n ≤ past → ((step : ℕ) → low ≤ step → step < low + n → IsDroppable case box kind relay step)
    → Drops case box (with_span kind box relay (record { low = low + n; past = past }))
low_chain case kind zero box relay low past below is fits each =
    let same : low + 0 ≡ low = omega arith in
    rw same (rw (← is) (rw (with_own kind box relay) none))
low_chain case kind (suc n) box relay low past below is fits each =
    let rest : Steps = record { low = suc low; past = past } in
    let span : Steps = record { low = low; past = past } in
    let later = with_span kind box relay rest in
    let stands = rw is at (span_has box kind relay below) in
    let drop : Drop case box = record {
      kind = kind;
      side = lowest;
      relay = relay;
      span = span;
      stands = stands;
      steps = omega (arith, fits);
      droppable = each low (omega arith) (omega arith);
    } in
    let within = narrowed_within kind box relay rest below (rw is (record { low = omega arith; past = omega arith })) in
    let more = low_chain case kind n later relay (suc low) past (omega (arith, below, with_count kind kind box relay rest)) (with_same kind box relay rest below) (omega (arith, fits))
    (λ step from before. droppable_within case later box kind relay step within (each step (omega (arith, from)) (omega (arith, before)))) in
    let same : suc low + n ≡ low + suc n = omega arith in
    next drop (rw same at (rw (with_twice kind box relay rest (record { low = suc low + n; past = past })) at more))

-- the highest n steps of a span are dropped where each of them is droppable
high_chain : (case : Case) (kind : Kind) (n : ℕ) (box : Box) (relay low past : ℕ) → relay < length (spans_of kind box) → span_at kind box relay ≡ (record { low = low; past = past + n })
    → low ≤ past → ((step : ℕ) → past ≤ step → step < past + n → IsDroppable case box kind relay step)
    → Drops case box (with_span kind box relay (record { low = low; past = past }))
high_chain case kind zero box relay low past below is fits each =
    let same : past + 0 ≡ past = omega arith in
    let own : span_at kind box relay ≡ (record { low = low; past = past }) = rw same at is in
    rw (← own) (rw (with_own kind box relay) none)
high_chain case kind (suc n) box relay low past below is fits each =
    let rest : Steps = record { low = low; past = past + n } in
    let later = with_span kind box relay rest in
    let stands = rw is at (span_has box kind relay below) in
    let one_less : past + suc n - 1 ≡ past + n = omega arith in
    let drop : Drop case box = record {
      kind = kind;
      side = highest;
      relay = relay;
      span = record { low = low; past = past + suc n };
      stands = stands;
      steps = omega (arith, fits);
      droppable = each (past + suc n - 1) (omega arith) (omega arith);
    } in
    let within = narrowed_within kind box relay rest below (rw is (record { low = omega arith; past = omega arith })) in
    let more = high_chain case kind n later relay low past (omega (arith, below, with_count kind kind box relay rest)) (with_same kind box relay rest below) fits
    (λ step from before. droppable_within case later box kind relay step within (each step from (omega (arith, before)))) in
    next drop (subst (λ (p : ℕ). Drops case (with_span kind box relay (record { low = low; past = p })) (with_span kind box relay (record { low = low; past = past }))) (sym one_less)
    (rw (with_twice kind box relay rest (record { low = low; past = past })) at more))

-- the lowest steps of the backup, with which the row cannot be met, are cut
pub cut_low : (case : Case) (box : Box) (row : Row) (kind : Kind) (low : ℕ) → FitsBox case box → Contains (rows_in case) row
    → (span_at kind box row.backup).low ≤ low → low ≤ (span_at kind box row.backup).past
    → ((step : ℕ) → (span_at kind box row.backup).low ≤ step → step < low → ¬ (CanMeet case box kind row.backup step row))
    → IsCut case row box (with_span kind box row.backup (record { low = low; past = (span_at kind box row.backup).past }))
cut_low case box row kind low fits there from to unmet =
    let span = span_at kind box row.backup in
    let below = (relay_counts case box row fits there).backup kind in
    let sum : span.low + (low - span.low) ≡ low = omega (arith, from) in
    let chain = low_chain case kind (low - span.low) box row.backup span.low span.past below refl (omega (arith, sum, to))
    (λ step after before. record { row = row; listed = there; unmet = unmet step after (omega (arith, before, sum)) }) in
    record {
      drops = rw sum at chain;
      kept = λ settings h meets.
          let is = lies_at box settings kind row.backup h below in
          let met : CanMeet case box kind row.backup (step_of kind settings row.backup) row = record { settings = settings; lies = h; has = refl; meets = meets } in
          let left : low ≤ step_of kind settings row.backup = elim (cases_lt (step_of kind settings row.backup) low) [
            | inl lower ↦ absurd (unmet (step_of kind settings row.backup) is.from lower met)
            | inr higher ↦ higher
          ] in
          lies_narrowed kind box row.backup (record { low = low; past = span.past }) settings below h (record { from = left; before = is.before });
    }

-- the highest steps of the primary, with which the row cannot be met, are cut
pub cut_high : (case : Case) (box : Box) (row : Row) (kind : Kind) (past : ℕ) → FitsBox case box → Contains (rows_in case) row
    → (span_at kind box row.primary).low ≤ past → past ≤ (span_at kind box row.primary).past
    → ((step : ℕ) → past ≤ step → step < (span_at kind box row.primary).past → ¬ (CanMeet case box kind row.primary step row))
    → IsCut case row box (with_span kind box row.primary (record { low = (span_at kind box row.primary).low; past = past }))
cut_high case box row kind past fits there from to unmet =
    let span = span_at kind box row.primary in
    let below = (relay_counts case box row fits there).primary kind in
    let sum : past + (span.past - past) ≡ span.past = omega (arith, to) in
    let is_span : span_at kind box row.primary ≡ (record { low = span.low; past = past + (span.past - past) }) = rw sum refl in
    let chain = high_chain case kind (span.past - past) box row.primary span.low past below is_span from
    (λ step after before. record { row = row; listed = there; unmet = unmet step after (omega (arith, before, sum)) }) in
    record {
      drops = chain;
      kept = λ settings h meets.
          let is = lies_at box settings kind row.primary h below in
          let met : CanMeet case box kind row.primary (step_of kind settings row.primary) row = record { settings = settings; lies = h; has = refl; meets = meets } in
          let left : step_of kind settings row.primary < past = elim (cases_lt (step_of kind settings row.primary) past) [
            | inl lower ↦ lower
            | inr higher ↦ absurd (unmet (step_of kind settings row.primary) higher is.before met)
          ] in
          lies_narrowed kind box row.primary (record { low = span.low; past = past }) settings below h (record { from = is.from; before = left });
    }

pub both_kinds : (P : Kind → Type 0) → P Pickup → P Dial → (kind : Kind) → P kind
both_kinds P pickup dial Pickup = pickup
both_kinds P pickup dial Dial = dial

pub uncut : (case : Case) (row : Row) (box : Box) → IsCut case row box box
uncut case row box = record { drops = none; kept = λ settings h meets. h }

pub cut_cut : (case : Case) (row : Row) (a b c : Box) → IsCut case row a b → IsCut case row b c → IsCut case row a c
cut_cut case row a b c first second = record {
  drops = drops_drops case a b c first.drops second.drops;
  kept = λ settings h meets. second.kept settings (first.kept settings h meets) meets;
}

-- what a cut keeps
pub cut_can : (case : Case) (row : Row) (box later : Box) (kind : Kind) (relay step : ℕ) → IsCut case row box later → CanMeet case box kind relay step row → CanMeet case later kind relay step row
cut_can case row box later kind relay step cut m = record { settings = m.settings; lies = cut.kept m.settings m.lies m.meets; has = m.has; meets = m.meets }

pub cut_meetable : (case : Case) (row : Row) (box later : Box) → IsCut case row box later → IsMeetable case box row → IsMeetable case later row
cut_meetable case row box later cut m = record { settings = m.settings; lies = cut.kept m.settings m.lies m.meets; meets = m.meets }

pub cut_filled : (case : Case) (row : Row) (box later : Box) → IsCut case row box later → IsMeetable case box row → IsFilled case box → IsFilled case later
cut_filled case row box later cut m filled =
    let lies = cut.kept m.settings m.lies m.meets in
    record {
      limits = filled.limits;
      fits = fits_within case later box (drops_within case box later cut.drops) filled.fits;
      steps = steps_have later (λ kind relay below. let is = lies_at later m.settings kind relay lies below in omega (arith, is.from, is.before));
    }

-- an end with which the row can be met stays the end
pub cut_low_end : (case : Case) (row : Row) (box later : Box) (kind : Kind) → row.backup < length (spans_of kind later) → IsCut case row box later
    → MeetsAtLow case box row kind → MeetsAtLow case later row kind
cut_low_end case row box later kind below cut m =
    let within = drops_within case box later cut.drops in
    let now = cut_can case row box later kind row.backup (span_at kind box row.backup).low cut m in
    let is = rw now.has at (lies_at later now.settings kind row.backup now.lies below) in
    let same : (span_at kind box row.backup).low ≡ (span_at kind later row.backup).low = omega (arith, is.from, ((by_kind within kind).each row.backup).low) in
    rw same at now

pub cut_high_end : (case : Case) (row : Row) (box later : Box) (kind : Kind) → row.primary < length (spans_of kind later) → IsCut case row box later
    → MeetsAtHigh case box row kind → MeetsAtHigh case later row kind
cut_high_end case row box later kind below cut m =
    let within = drops_within case box later cut.drops in
    let now = cut_can case row box later kind row.primary ((span_at kind box row.primary).past - 1) cut m in
    let is = rw now.has at (lies_at later now.settings kind row.primary now.lies below) in
    let same : (span_at kind box row.primary).past - 1 ≡ (span_at kind later row.primary).past - 1 = omega (arith, is.from, is.before, ((by_kind within kind).each row.primary).past) in
    rw same at now
