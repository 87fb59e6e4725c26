-- The order of drops doesn't matter, and what each drop keeps.
use Rattle.std.specs.Prelude.{Contains}
use Rattle.std.proofs.Common.{◌≡◌, ◌≢◌, ℕ, ◌-◌, ◌<◌, length, arith}
use Rattle.std.proofs.lemmas.List.Elements.{All-contains}
use Rattle.coord_model.specs.Choice.{Settings}
use Rattle.coord_model.specs.declared.study.Row.{Row}
use Rattle.margin_rows.specs.Box.{Box, HasEmptySpan, IsIn, LiesIn}
use Rattle.margin_rows.specs.Case.{Case, rows_in}
use Rattle.margin_rows.specs.Margin.{MeetsLoosely}
use Rattle.margin_rows.specs.Within.{IsSpanWithin, IsWithin}
use Rattle.margin_rows.specs.declared.span.Steps.{Steps}
use Rattle.margin_rows.proofs.Within.{within_both, within_itself, within_within}
use Rattle.box_range.specs.Drops.{IsDroppable, Drop, dropped, Drops, none, next, IsTight, MeetsAllLoosely}
use Rattle.box_range.specs.Kinds.{spans_of, step_of, span_at, with_span, Side, lowest, highest, end_of, without_end}
use Rattle.box_range.specs.declared.kind.Kind.{Kind}
use Rattle.box_range.proofs.Spans.{empty_at, has_span, span_has, has_steps, lies_at}
use Rattle.box_range.proofs.Within.{by_kind, narrowed_within, within_narrowed, lies_narrowed, droppable_within}

-- a span without an end of it lies within it
less : (side : Side) (span : Steps) → IsSpanWithin (without_end side span) span
less lowest span = record { low = omega arith; past = omega arith }
less highest span = record { low = omega arith; past = omega arith }

-- a step of the span other than the end is left
step_left : (side : Side) (span : Steps) (step : ℕ) → IsIn span step → step ≢ end_of side span → IsIn (without_end side span) step
step_left lowest span step is other = record { from = omega (arith, is.from, other); before = is.before }
step_left highest span step is other = record { from = is.from; before = omega (arith, is.before, other) }

pub drop_within : (case : Case) (box : Box) (drop : Drop case box) → IsWithin (dropped case box drop) box
drop_within case box drop =
    let at = has_span box drop.kind drop.relay drop.span drop.stands in
    narrowed_within drop.kind box drop.relay (without_end drop.side drop.span) at.0
    (rw at.1 (less drop.side drop.span))

pub drops_within : (case : Case) (box later : Box) → Drops case box later → IsWithin later box
drops_within case box later none = within_itself box
drops_within case box later (next drop more) = within_within later (dropped case box drop) box (drops_within case (dropped case box drop) later more) (drop_within case box drop)

pub drops_drops : (case : Case) (a b c : Box) → Drops case a b → Drops case b c → Drops case a c
drops_drops case a b c none more = more
drops_drops case a b c (next drop first) more = next drop (drops_drops case (dropped case a drop) b c first more)

-- settings that keep off the end that is dropped stay in the box
stays : (case : Case) (box : Box) (drop : Drop case box) (settings : Settings) → LiesIn box settings
    → step_of drop.kind settings drop.relay ≢ end_of drop.side drop.span → LiesIn (dropped case box drop) settings
stays case box drop settings h other =
    let at = has_span box drop.kind drop.relay drop.span drop.stands in
    lies_narrowed drop.kind box drop.relay (without_end drop.side drop.span) settings at.0 h
    (step_left drop.side drop.span (step_of drop.kind settings drop.relay) (rw at.1 at (lies_at box settings drop.kind drop.relay h at.0)) other)

meets_listed : (case : Case) (settings : Settings) (row : Row) → MeetsAllLoosely case settings → Contains (rows_in case) row → MeetsLoosely case settings row
meets_listed case settings row all listed = All-contains (MeetsLoosely case settings) (rows_in case) row all listed

-- settings that meet every row stay in the box through all drops
pub drops_keep : (case : Case) (box later : Box) (settings : Settings) → Drops case box later → LiesIn box settings → MeetsAllLoosely case settings → LiesIn later settings
drops_keep case box later settings none h all = h
drops_keep case box later settings (next drop more) h all =
    drops_keep case (dropped case box drop) later settings more
    (stays case box drop settings h (λ (same : step_of drop.kind settings drop.relay ≡ end_of drop.side drop.span).
    drop.droppable.unmet (record { settings = settings; lies = h; has = same; meets = meets_listed case settings drop.droppable.row all drop.droppable.listed })))
    all

-- a tight box keeps off each end that is droppable in a box round it
tight_off : (case : Case) (tight box : Box) (kind : Kind) (side : Side) (relay : ℕ) → IsTight case tight → IsWithin tight box → relay < length (spans_of kind tight)
    → IsDroppable case box kind relay (end_of side (span_at kind tight relay)) → ⊥
tight_off case tight box kind side relay is within below droppable =
    is.no_drop (record {
      kind = kind;
      side = side;
      relay = relay;
      span = span_at kind tight relay;
      stands = span_has tight kind relay below;
      steps = has_steps tight kind relay is.steps below;
      droppable = droppable_within case tight box kind relay (end_of side (span_at kind tight relay)) within droppable;
    })

tight_without : (case : Case) (tight box : Box) (kind : Kind) (side : Side) (relay : ℕ) → IsTight case tight → IsWithin tight box → relay < length (spans_of kind box)
    → IsDroppable case box kind relay (end_of side (span_at kind box relay)) → IsWithin tight (with_span kind box relay (without_end side (span_at kind box relay)))
tight_without case tight box kind lowest relay is within below droppable =
    let inside : relay < length (spans_of kind tight) = omega (arith, (by_kind within kind).count) in
    let off : (span_at kind box relay).low ≢ (span_at kind tight relay).low =
    λ (same : (span_at kind box relay).low ≡ (span_at kind tight relay).low). tight_off case tight box kind lowest relay is within inside (rw same at droppable) in
    within_narrowed kind tight box relay (without_end lowest (span_at kind box relay)) below within
    (record { low = omega (arith, off, ((by_kind within kind).each relay).low); past = ((by_kind within kind).each relay).past })
tight_without case tight box kind highest relay is within below droppable =
    let inside : relay < length (spans_of kind tight) = omega (arith, (by_kind within kind).count) in
    let some = has_steps tight kind relay is.steps inside in
    let off : (span_at kind box relay).past - 1 ≢ (span_at kind tight relay).past - 1 =
    λ (same : (span_at kind box relay).past - 1 ≡ (span_at kind tight relay).past - 1). tight_off case tight box kind highest relay is within inside (rw same at droppable) in
    within_narrowed kind tight box relay (without_end highest (span_at kind box relay)) below within
    (record { low = ((by_kind within kind).each relay).low; past = omega (arith, off, some, ((by_kind within kind).each relay).past) })

tight_drop : (case : Case) (tight box : Box) (drop : Drop case box) → IsTight case tight → IsWithin tight box → IsWithin tight (dropped case box drop)
tight_drop case tight box drop is within =
    let at = has_span box drop.kind drop.relay drop.span drop.stands in
    rw at.1 at (tight_without case tight box drop.kind drop.side drop.relay is within at.0 (rw at.1 drop.droppable))

-- a tight box within a box stays within it through all drops
pub tight_within : (case : Case) (tight box later : Box) → IsTight case tight → Drops case box later → IsWithin tight box → IsWithin tight later
tight_within case tight box later is none within = within
tight_within case tight box later is (next drop more) within = tight_within case tight (dropped case box drop) later is more (tight_drop case tight box drop is within)

-- drops lead to one tight box at most
pub one_tight : (case : Case) (box a b : Box) → Drops case box a → IsTight case a → Drops case box b → IsTight case b → a ≡ b
one_tight case box a b to_a tight_a to_b tight_b =
    within_both a b (tight_within case a box b tight_a to_b (drops_within case box a to_a)) (tight_within case b box a tight_b to_a (drops_within case box b to_b))

-- where drops lead to an empty span, they lead to no tight box
pub tight_not_emptied : (case : Case) (box tight end : Box) → Drops case box tight → IsTight case tight → Drops case box end → HasEmptySpan end → ⊥
tight_not_emptied case box tight end to_tight is to_end gone =
    let within = tight_within case tight box end is to_end (drops_within case box tight to_tight) in
    let at = empty_at end gone in
    let some = has_steps tight at.0 at.1 is.steps (omega (arith, at.2, (by_kind within at.0).count)) in
    omega (arith, some, ((by_kind within at.0).each at.1).low, ((by_kind within at.0).each at.1).past, at.3)

-- no settings of an emptied box loosely meet every row
pub none_left : (case : Case) (box end : Box) (settings : Settings) → Drops case box end → HasEmptySpan end → LiesIn box settings → MeetsAllLoosely case settings → ⊥
none_left case box end settings drops gone lies all =
    let at = empty_at end gone in
    let is = lies_at end settings at.0 at.1 (drops_keep case box end settings drops lies all) at.2 in
    omega (arith, is.from, is.before, at.3)
