-- The least gap of a case stays below the greatest gap that may be given, 10^12.
use Rattle.std.specs.Prelude.{◌==◌, if◌then◌else◌}
use Rattle.std.specs.Int.{div_ceil}
use Rattle.std.specs.List.{All, Contains}
use Rattle.std.proofs.Common.{ℕ, ◌+◌, ◌*◌, ◌^◌, ◌<◌, ◌≤◌, Bool, true, false, inl, inr, List, [], ◌∷◌, length, arith}
use Rattle.std.proofs.lemmas.List.Elements.{All-head, All-tail, Contains-get_or}
use Rattle.coord_model.specs.Cost.{weight_of}
use Rattle.coord_model.specs.Enclosure.{root_width, width_of}
use Rattle.coord_model.specs.Form.{form_of, is_custom}
use Rattle.coord_model.specs.PartLimits.{FitsRelay}
use Rattle.coord_model.specs.declared.curve.CurveForm.{CurveForm}
use Rattle.coord_model.specs.declared.study.Term.{Term}
use Rattle.margin_rows.specs.Case.{Case, FitsCase, terms_in}
use Rattle.margin_rows.specs.Gap.{AddsUpTo, IsGreatestWidth, IsWidthSum, last_dial}
use Rattle.margin_rows.specs.Times.{width_at}
use Rattle.margin_rows.proofs.Boxed.{first_is_timed}
use Rattle.margin_rows.proofs.Listed.{term_facts}
use Rattle.margin_rows.proofs.Placed.{terms_few}
use Rattle.margin_rows.proofs.SmallSums.{weight_small}
use Rattle.margin_rows.proofs.Timed.{at_place, enclosed}
use Rattle.margin_rows.proofs.Written.{in_list}

-- the ends of a time lie at most 5,000 ns apart
root_few : (custom : Bool) → root_width custom ≤ 5000
root_few true = omega arith
root_few false = omega arith

either_few : (whole : Bool) (width : ℕ) → width ≤ 5000 → (if whole then 1 else width) ≤ 5000
either_few true width few = omega arith
either_few false width few = few

width_few : (custom : Bool) (form : CurveForm) → width_of custom form ≤ 5000
width_few custom form = either_few (form.h == 1) (root_width custom) (root_few custom)

width_at_few : (case : Case) (i : ℕ) → i < length case.study.relays → width_at case i ≤ 5000
width_at_few case i below =
    let there = in_list case.study.relays i below in
    rw there.1 (width_few (is_custom there.0.curve) (form_of there.0.curve))

last_few : (case : Case) (i : ℕ) → FitsCase case → i < length case.study.relays → last_dial case.study i ≤ 15000
last_few case i fits below =
    let there = in_list case.study.relays i below in
    let relay_fits = at_place (FitsRelay case.study) case.study.relays i there.0 fits.study.relays there.1 in
    rw there.1 relay_fits.last_dial

-- the greatest width of a term
greatest_few : (case : Case) (term : Term) (width : ℕ) → FitsCase case → Contains (terms_in case) term → IsGreatestWidth case term.fault term.relay width → width ≤ 5000
greatest_few case term width fits listed greatest = elim greatest.as_wide [
  | inl none ↦ omega (arith, none)
  | inr wide ↦
      let narrow = (enclosed case term.fault term.relay wide.0 fits.study fits.currents (first_is_timed case term.fault term.relay wide.0 (inl listed) wide.1)).narrow in
      omega (arith, narrow, wide.2, width_at_few case term.relay (term_facts case term listed).relay)
]

part_few : (weight dial width : ℕ) → weight ≤ 1000 → dial ≤ 15000 → width ≤ 5000 → weight * dial * width ≤ 75000000000
part_few weight dial width light low narrow = grind arith

ceil_few : (sum : ℕ) → sum ≤ 512 * 75000000000 → div_ceil sum 1000000 + 1 ≤ 10 ^ 12
ceil_few sum few = omega (arith, few)

-- so many terms come to at most this
adds_few : (case : Case) (terms : List Term) (sum : ℕ) → FitsCase case → All (Contains (terms_in case)) terms → AddsUpTo case terms sum → sum ≤ length terms * 75000000000
adds_few case [] sum fits listed adds = omega (arith, adds)
adds_few case (t ∷ terms) sum fits listed adds =
    let here = All-head (Contains (terms_in case)) t terms listed in
    let facts = term_facts case t here in
    let first = part_few (weight_of case.study t.fault) (last_dial case.study t.relay) adds.0
    (weight_small case t.fault fits facts.fault) (last_few case t.relay fits facts.relay) (greatest_few case t adds.0 fits here adds.2) in
    omega (arith, first, adds_few case terms adds.1 fits (All-tail (Contains (terms_in case)) t terms listed) adds.3, adds.4)

-- the sum of widths in whole weighted microseconds
pub width_sum_few : (case : Case) (sum : ℕ) → FitsCase case → IsWidthSum case sum → div_ceil sum 1000000 + 1 ≤ 10 ^ 12
width_sum_few case sum fits is =
    let few = adds_few case (terms_in case) sum fits (λ k d below. Contains-get_or (terms_in case) k d below) is in
    ceil_few sum (omega (arith, few, terms_few case fits.study))
