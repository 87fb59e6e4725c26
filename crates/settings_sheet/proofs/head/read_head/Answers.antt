use Rattle.std.proofs.Common.{[], ◌∷◌, ◌++◌, refl, sym, subst}
use Rattle.std.specs.Prelude.{codes}
use Rattle.coord_text.specs.Claims.{amount, ending_word}
use Rattle.settings_sheet.specs.SheetFaults.{IsRefusalOf}
use Rattle.settings_sheet.proofs.HeadStops.{bound_stops, cost_stops, ending_stops, format_stops, said_more}
use Rattle.settings_sheet.proofs.head.read_head.Goals as goal

pub returns-in_default-clause-stops : goal.returns-in_default-clause-stops
returns-in_default-clause-stops c study fits =
    subst (IsRefusalOf study c.args.bytes.now) (sym c.fault.ensures) (format_stops study fits c.args.bytes.now c.args.bytes.now refl (c.in_default.ensures.no_such refl))

pub returns-in_default-read_ending-clause-stops : goal.returns-in_default-read_ending-clause-stops
returns-in_default-read_ending-clause-stops c study fits =
    let bytes = c.args.bytes.now in
    subst (IsRefusalOf study bytes) (sym c.fault-in_default-read_ending.ensures)
    (ending_stops study fits bytes c.in-Some.left.now c.in-Some.ensures.said (c.in_default-read_ending.ensures.no_such refl))

pub returns-in_default-read_cost-clause-stops : goal.returns-in_default-read_cost-clause-stops
returns-in_default-read_cost-clause-stops c study fits =
    let bytes = c.args.bytes.now in
    let ending = c.in-Some-read_ending.ending in
    subst (IsRefusalOf study bytes) (sym c.fault-in_default-read_cost.ensures)
    (cost_stops study fits bytes c.in-Some-read_ending.left.now ending
    (said_more bytes (codes "coord-sheet 1" ∷ []) c.in-Some.left.now (codes "ending " ++ ending_word ending) c.in-Some-read_ending.left.now c.in-Some.ensures.said c.in-Some-read_ending.ensures.said)
    (c.in_default-read_cost.ensures.no_such refl))

pub returns-in_default-read_bound-clause-stops : goal.returns-in_default-read_bound-clause-stops
returns-in_default-read_bound-clause-stops c study fits =
    let bytes = c.args.bytes.now in
    let ending = c.in-Some-read_ending.ending in
    let cost = c.in-Some-read_cost.cost in
    subst (IsRefusalOf study bytes) (sym c.fault-in_default-read_bound.ensures)
    (bound_stops study fits bytes c.in-Some-read_cost.left.now ending cost c.in-Some-read_cost.ensures.goes c.in-Some-read_cost.ensures.short
    (said_more bytes (codes "coord-sheet 1" ∷ (codes "ending " ++ ending_word ending) ∷ []) c.in-Some-read_ending.left.now (codes "cost " ++ amount cost) c.in-Some-read_cost.left.now
    (said_more bytes (codes "coord-sheet 1" ∷ []) c.in-Some.left.now (codes "ending " ++ ending_word ending) c.in-Some-read_ending.left.now c.in-Some.ensures.said c.in-Some-read_ending.ensures.said)
    c.in-Some-read_cost.ensures.said)
    (c.in_default-read_bound.ensures.no_such refl))
