-- The widths of the enclosures: the greatest over some steps, their sum over some terms, and what the sum covers.
use Rattle.std.specs.Prelude.{slice_get, slice_index}
use Rattle.std.proofs.Common.{◌≡◌, ℕ, ◌+◌, ◌-◌, ◌*◌, ◌^◌, ◌/◌, ◌<◌, ◌≤◌, ◌⊎◌, inl, inr, List, [], ◌∷◌, ◌++◌, length, get_or, take, Some, None, Option, arith, refl, sym, ap, ◌∙◌, subst, nat_cmp}
use Rattle.std.proofs.Math.Nat.{mul-le-mul_left, mul-le-mul_right}
use Rattle.std.proofs.lemmas.Bool.{cases_eq}
use Rattle.std.proofs.lemmas.List.{take_more, take_all}
use Rattle.std.proofs.lemmas.List.Elements.{All-head, All-tail, Contains-get_or}
use Rattle.std.proofs.lemmas.List.Sums.{sum_by-cons}
use Rattle.std.proofs.lemmas.Bool.Decides.{nat_tests}
use Rattle.std.specs.Int.{div_ceil}
use Rattle.std.specs.List.{All, sum_by}
use Rattle.std.specs.Option.{IfSome, option_map_or}
use Rattle.std.specs.Ordering.{ord_max}
use Rattle.coord_model.proofs.Quotients.{floor_near, ceil_covers, ceil_least}
use Rattle.coord_model.specs.Allowed.{IsOnSteps}
use Rattle.coord_model.specs.Choice.{Settings}
use Rattle.coord_model.specs.Cost.{weight_of}
use Rattle.coord_model.specs.Dial.{dial_of}
use Rattle.coord_model.specs.Time.{dial_at}
use Rattle.coord_model.specs.declared.study.Relay.{Relay}
use Rattle.coord_model.specs.declared.study.Term.{Term}
use Rattle.margin_rows.specs.Case.{Case, terms_in, term_at}
use Rattle.margin_rows.specs.FirstBox.{IsFirstSpan, IsInFirstBox}
use Rattle.margin_rows.specs.Gap.{AddsUpTo, IsGreatestWidth, IsWidthSum, last_dial, width_part}
use Rattle.margin_rows.specs.Margin.{time_of}
use Rattle.margin_rows.specs.Price.{cost_of, lower_cost_of, greatest_part, least_part, greatest_sum, least_sum}
use Rattle.margin_rows.specs.Times.{time_at, IsOrdinary}
use Rattle.margin_rows.proofs.Boxed.{pickup_first}
use Rattle.margin_rows.proofs.Listed.{IsTermOf, term_facts}

-- the greatest width over the steps from `low` up to, but not including, `past`
pub record IsWidest (case : Case) (fault relay low past width : ℕ) : Type 0 where
  pub no_wider : (step : ℕ) → low ≤ step → step < past → (time_at case fault relay step).upper ≤ (time_at case fault relay step).lower + width
  pub as_wide : (width ≡ 0) ⊎ ((step : ℕ) × (low ≤ step) × (step < past) × ((time_at case fault relay step).upper ≡ (time_at case fault relay step).lower + width))

-- the greater of two numbers is one of them
picked : (a b r : ℕ) → r ≡ ord_max nat_cmp a b → ((a ≤ b) × (r ≡ b)) ⊎ ((b ≤ a) × (r ≡ a))
picked a b r is = grind (arith, nat_tests)

-- one step more
pub widest_more : (case : Case) (fault relay low step width result lower upper : ℕ) → low ≤ step → lower ≡ (time_at case fault relay step).lower → upper ≡ (time_at case fault relay step).upper → IsOrdinary (time_at case fault relay step)
    → result ≡ ord_max nat_cmp width (upper - lower) → IsWidest case fault relay low step width → IsWidest case fault relay low (step + 1) result
widest_more case fault relay low step width result lower upper from low_is high_is ordinary picks so_far =
    let ordered = ordinary.ordered in
    let one = picked width (upper - lower) result picks in
    record {
      no_wider = λ s above below. elim (cases_eq s step) [
        | inl same ↦ let T : ℕ → Type 0 = λ k. (time_at case fault relay k).upper ≤ (time_at case fault relay k).lower + result in subst T (sym same) (elim one [ inl w ↦ omega arith | inr w ↦ omega arith ])
        | inr apart ↦ let old = so_far.no_wider s above (omega arith) in elim one [ inl w ↦ omega arith | inr w ↦ omega arith ]
      ];
      as_wide = elim one [
        | inl w ↦ inr (step, from, (omega arith), (omega (arith, w.1)))
        | inr w ↦ elim so_far.as_wide [
          | inl none ↦ inl (w.1 ∙ none)
          | inr there ↦ inr (there.0, there.1, (omega (arith, there.2)), there.3 ∙ ap (λ (k : ℕ). (time_at case fault relay there.0).lower + k) (sym w.1))
        ]
      ];
    }

-- the greater of two small widths is small
pub picked_small : (case : Case) (fault relay step width result lower upper : ℕ) → upper ≡ (time_at case fault relay step).upper → IsOrdinary (time_at case fault relay step)
    → result ≡ ord_max nat_cmp width (upper - lower) → width < 2 ^ 40 → result < 2 ^ 40
picked_small case fault relay step width result lower upper is ordinary picks small =
    let few = ordinary.small in
    elim (picked width (upper - lower) result picks) [ inl w ↦ omega arith | inr w ↦ omega arith ]

-- over the steps of the first box it is the greatest of all
pub widest_is_greatest : (case : Case) (fault relay low high past width : ℕ) → IsFirstSpan case relay low high → past ≡ high + 1 → IsWidest case fault relay low past width → IsGreatestWidth case fault relay width
widest_is_greatest case fault relay low high past width span is widest = record {
  no_wider = λ step first. let inside = span.no_other step first in widest.no_wider step inside.0 (omega (arith, inside.1));
  as_wide = elim widest.as_wide [ inl none ↦ inl none | inr there ↦ inr (there.0, span.inside there.0 there.1 (omega (arith, there.2)), there.3) ];
}

-- there is only one greatest width
greatest_le : (case : Case) (fault relay a b : ℕ) → IsGreatestWidth case fault relay a → IsGreatestWidth case fault relay b → a ≤ b
greatest_le case fault relay a b first second =
    elim first.as_wide [ inl none ↦ omega (arith, none) | inr there ↦ omega (arith, there.2, second.no_wider there.0 there.1) ]

-- one term more
adds_more : (case : Case) (terms : List Term) (term : Term) (sum width : ℕ) → AddsUpTo case terms sum → IsGreatestWidth case term.fault term.relay width → AddsUpTo case (terms ++ term ∷ []) (sum + width_part case term width)
adds_more case [] term sum width so_far greatest = (width, 0, greatest, refl, omega (arith, so_far))
adds_more case (t ∷ terms) term sum width so_far greatest =
    let part = width_part case term width in
    (so_far.0, so_far.1 + part, so_far.2, adds_more case terms term so_far.1 width so_far.3 greatest, omega (arith, so_far.4))

pub sum_more : (case : Case) (count sum value : ℕ) → count < length (terms_in case) → AddsUpTo case (take count (terms_in case)) sum
    → (let t : Term = term_at case count in (w : ℕ) × IsGreatestWidth case t.fault t.relay w × (value ≡ width_part case t w)) → AddsUpTo case (take (count + 1) (terms_in case)) (sum + value)
sum_more case count sum value below so_far new =
    let d : Term = record { fault = 0; relay = 0 } in
    let more = adds_more case (take count (terms_in case)) (term_at case count) sum new.0 so_far new.1 in
    rw (take_more (terms_in case) count d below, new.2) more

-- all terms
pub sum_all : (case : Case) (count sum : ℕ) → length (terms_in case) ≤ count → AddsUpTo case (take count (terms_in case)) sum → IsWidthSum case sum
sum_all case count sum past so_far = subst (λ (ts : List Term). AddsUpTo case ts sum) (take_all count (terms_in case) past) so_far

-- the greatest widths of terms have one sum
pub sum_is_one : (case : Case) (terms : List Term) (a b : ℕ) → AddsUpTo case terms a → AddsUpTo case terms b → a ≡ b
sum_is_one case [] a b first second = first ∙ sym second
sum_is_one case (t ∷ terms) a b first second =
    let width : first.0 ≡ second.0 = omega (arith, greatest_le case t.fault t.relay first.0 second.0 first.2 second.2, greatest_le case t.fault t.relay second.0 first.0 second.2 first.2) in
    let part : width_part case t first.0 ≡ width_part case t second.0 = ap (λ (n : ℕ). width_part case t n) width in
    omega (arith, first.4, second.4, part, sum_is_one case terms first.1 second.1 first.3 second.3)

-- a weighted width is below 2^64
pub part_small : (weight dial width : ℕ) → weight ≤ 1000 → dial ≤ 15000 → width < 2 ^ 40 → weight * dial * width ≤ 16500000000000000000
part_small weight dial width few some small = grind arith

-- the dial of settings is at most the last
dial_le_last : (o : Option Relay) (pickup dial : ℕ) → IfSome o (λ relay. IsOnSteps relay pickup dial) → option_map_or (λ relay. dial_at relay dial) o 0 ≤ option_map_or (λ relay. dial_at relay (relay.dial_count - 1)) o 0
dial_le_last None pickup dial on_steps = omega arith
dial_le_last (Some relay) pickup dial on_steps =
    let few : dial ≤ relay.dial_count - 1 = omega (arith, on_steps.dial_step) in
    omega (arith, mul-le-mul_right relay.dial_step few)

-- the times from above lie above those from below by at most that sum
parts_within : (case : Case) (settings : Settings) (terms : List Term) (sum : ℕ) → IsInFirstBox case settings → All (IsTermOf case) terms → AddsUpTo case terms sum
    → sum_by (greatest_part case settings) terms ≤ sum_by (least_part case settings) terms + sum
parts_within case settings [] sum box facts adds = omega arith
parts_within case settings (t ∷ terms) sum box facts adds =
    let first = at_term (All-head (IsTermOf case) t terms facts) adds.2 in
    let others = parts_within case settings terms adds.1 box (All-tail (IsTermOf case) t terms facts) adds.3 in
    rw (sum_by-cons (greatest_part case settings) t terms, sum_by-cons (least_part case settings) t terms) (omega (arith, first, others, adds.4))
  where
    product : (w d e u l n : ℕ) → u ≤ l + n → d ≤ e → w * d * u ≤ w * d * l + w * e * n
    product w d e u l n width dial =
        let wide : w * d * u ≤ w * d * (l + n) = mul-le-mul_left (w * d) width in
        let last : w * d * n ≤ w * e * n = mul-le-mul_right n (mul-le-mul_left w dial) in
        omega (arith, wide, last)

    at_term : IsTermOf case t → IsGreatestWidth case t.fault t.relay adds.0 → greatest_part case settings t ≤ least_part case settings t + width_part case t adds.0
    at_term is greatest =
        product (weight_of case.study t.fault) (dial_of case.study settings t.relay) (last_dial case.study t.relay) (time_of case settings t.fault t.relay).upper (time_of case settings t.fault t.relay).lower adds.0
        (greatest.no_wider (slice_index settings.pickup t.relay) (pickup_first case settings t.relay box is.relay)) (dial_le_last (slice_get case.study.relays t.relay) (slice_index settings.pickup t.relay) (slice_index settings.dial t.relay) (box.on_steps.steps t.relay))

-- the cost of settings of the first box lies above the least that they can cost by at most the least gap
pub gap_covers : (case : Case) (sum : ℕ) (settings : Settings) → IsWidthSum case sum → IsInFirstBox case settings → cost_of case settings ≤ lower_cost_of case settings + (div_ceil sum 1000000 + 1)
unfolding cost_of lower_cost_of
gap_covers case sum settings whole box =
    let facts : All (IsTermOf case) (terms_in case) = λ k d below. term_facts case (get_or (terms_in case) k d) (Contains-get_or (terms_in case) k d below) in
    let within = parts_within case settings (terms_in case) sum box facts whole in
    let x = least_sum case settings / 1000000 + (div_ceil sum 1000000 + 1) in
    ceil_least (greatest_sum case settings) 1000000 x (omega arith)
    (rounded (greatest_sum case settings) (least_sum case settings) sum (least_sum case settings / 1000000) (div_ceil sum 1000000) within (floor_near (least_sum case settings) 1000000 (omega arith)) (ceil_covers sum 1000000 (omega arith)))
  where
    rounded : (g l d fl ce : ℕ) → g ≤ l + d → l < (fl + 1) * 1000000 → d ≤ ce * 1000000 → g ≤ (fl + (ce + 1)) * 1000000
    rounded g l d fl ce within near covers = omega arith
