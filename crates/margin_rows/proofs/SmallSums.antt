-- The weighted sum of the primary operating times stays small.
use Rattle.std.specs.Prelude.{slice_get, slice_index}
use Rattle.std.specs.List.{All}
use Rattle.std.proofs.Common.{ℕ, ◌*◌, ◌^◌, ◌<◌, ◌≤◌, length, get_or, arith, refl}
use Rattle.std.proofs.lemmas.List.Elements.{Contains-get_or}
use Rattle.std.proofs.lemmas.List.Sums.{sum_by-le}
use Rattle.coord_model.specs.Allowed.{IsOnSteps}
use Rattle.coord_model.specs.Choice.{Settings}
use Rattle.coord_model.specs.Cost.{weight_of}
use Rattle.coord_model.specs.Dial.{dial_of}
use Rattle.coord_model.specs.declared.study.Term.{Term}
use Rattle.margin_rows.specs.Case.{Case, FitsCase, terms_in}
use Rattle.margin_rows.specs.FirstBox.{IsInFirstBox}
use Rattle.margin_rows.specs.Margin.{time_of}
use Rattle.margin_rows.specs.Price.{cost_of, greatest_sum, least_sum}
use Rattle.margin_rows.proofs.Boxed.{set_terms}
use Rattle.margin_rows.proofs.Dialled.{dial_few}
use Rattle.margin_rows.proofs.Listed.{term_facts}
use Rattle.margin_rows.proofs.Placed.{of_some, terms_few, weight_there}
use Rattle.margin_rows.proofs.Widths.{part_small}
use Rattle.margin_rows.proofs.Written.{in_list}

pub dial_small : (case : Case) (settings : Settings) (i : ℕ) → FitsCase case → IsInFirstBox case settings → i < length case.study.relays → dial_of case.study settings i ≤ 15000
dial_small case settings i fits inside below =
    let there = in_list case.study.relays i below in
    let steps = of_some (slice_get case.study.relays i) (λ relay. IsOnSteps relay (slice_index settings.pickup i) (slice_index settings.dial i)) there.0 there.1 (inside.on_steps.steps i) in
    rw there.1 (dial_few case i (slice_index settings.dial i) there.0 fits there.1 steps.dial_step)

pub weight_small : (case : Case) (f : ℕ) → FitsCase case → f < length case.study.faults → weight_of case.study f ≤ 1000
weight_small case f fits below = let is = weight_there case case.study f f (in_list case.study.faults f below).0 fits.study refl refl below in omega (arith, is.0, is.1)

pub least_sum_small : (case : Case) (settings : Settings) → FitsCase case → IsInFirstBox case settings → least_sum case settings ≤ 512 * 16500000000000000000
least_sum_small case settings fits inside =
    let each : All (λ term. weight_of case.study term.fault * dial_of case.study settings term.relay * (time_of case settings term.fault term.relay).lower ≤ 16500000000000000000) (terms_in case) = λ k e below.
    let term : Term = get_or (terms_in case) k e in
    let facts = term_facts case term (Contains-get_or (terms_in case) k e below) in
    let time = (set_terms case settings fits inside k e below).ordinary in
    part_small (weight_of case.study term.fault) (dial_of case.study settings term.relay) (time_of case settings term.fault term.relay).lower
    (weight_small case term.fault fits facts.fault) (dial_small case settings term.relay fits inside facts.relay) (omega (arith, time.ordered, time.small)) in
    let whole = sum_by-le (λ term. weight_of case.study term.fault * dial_of case.study settings term.relay * (time_of case settings term.fault term.relay).lower) 16500000000000000000 (terms_in case) each in
    omega (arith, whole, terms_few case fits.study)

pub greatest_sum_small : (case : Case) (settings : Settings) → FitsCase case → IsInFirstBox case settings → greatest_sum case settings ≤ 512 * 16500000000000000000
greatest_sum_small case settings fits inside =
    let each : All (λ term. weight_of case.study term.fault * dial_of case.study settings term.relay * (time_of case settings term.fault term.relay).upper ≤ 16500000000000000000) (terms_in case) = λ k e below.
    let term : Term = get_or (terms_in case) k e in
    let facts = term_facts case term (Contains-get_or (terms_in case) k e below) in
    let time = (set_terms case settings fits inside k e below).ordinary in
    part_small (weight_of case.study term.fault) (dial_of case.study settings term.relay) (time_of case settings term.fault term.relay).upper
    (weight_small case term.fault fits facts.fault) (dial_small case settings term.relay fits inside facts.relay) time.small in
    let whole = sum_by-le (λ term. weight_of case.study term.fault * dial_of case.study settings term.relay * (time_of case settings term.fault term.relay).upper) 16500000000000000000 (terms_in case) each in
    omega (arith, whole, terms_few case fits.study)

-- a cost has at most 16 digits
pub cost_small : (case : Case) (settings : Settings) → FitsCase case → IsInFirstBox case settings → cost_of case settings < 10 ^ 16
unfolding cost_of
cost_small case settings fits inside = omega (arith, greatest_sum_small case settings fits inside)
