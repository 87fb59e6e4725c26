-- The weighted times of the relays, added up term by term.
use Rattle.std.specs.Prelude.{slice_get, slice_index, ◌==◌, if◌then◌else◌}
use Rattle.std.proofs.Common.{◌≡◌, ◌≢◌, ℕ, ◌+◌, ◌*◌, ◌^◌, ◌<◌, ◌≤◌, List, length, get_or, set, take, None, Option, arith, refl, sym, ap, ◌∙◌, inl, inr, subst}
use Rattle.std.specs.List.{All, Contains}
use Rattle.std.specs.Option.{IsSomeAnd}
use Rattle.std.proofs.lemmas.Bool.{cases_eq}
use Rattle.std.proofs.lemmas.Bool.Decides.{nat_tests}
use Rattle.std.proofs.lemmas.List.{length-set, get_or-set_same, get_or-set_other}
use Rattle.std.proofs.lemmas.List.Elements.{Contains-get_or}
use Rattle.std.proofs.lemmas.List.Sums.{sum_by-le, sum_by-take-le}
use Rattle.std.proofs.lemmas.Nat.{mul-le, same_from_place}
use Rattle.std.proofs.lemmas.Option.{slice_get_within, get_or_from_slice_get}
use Rattle.coord_model.specs.Cost.{weight_of}
use Rattle.coord_model.specs.Allowed.{IsSensible}
use Rattle.coord_model.specs.declared.study.Term.{Term}
use Rattle.margin_rows.specs.Case.{Case, FitsCase, terms_in}
use Rattle.margin_rows.specs.FirstBox.{IsFirstStep, IsFirstSpan, IsFirstSpanOf}
use Rattle.margin_rows.specs.Price.{term_part, term_sum}
use Rattle.margin_rows.specs.Tables.{no_time, HoldsRun, HoldsSums, HoldTermRuns}
use Rattle.margin_rows.specs.declared.ends.Ends.{Ends}
use Rattle.margin_rows.specs.Times.{time_at, ends_of, IsOrdinary}
use Rattle.margin_rows.proofs.Listed.{IsTermOf, term_facts, term_used}
use Rattle.margin_rows.proofs.Looked.{run_time, first_ordinary}
use Rattle.margin_rows.proofs.Placed.{terms_few, weight_there}
use Rattle.margin_rows.proofs.Places.{some_and}
use Rattle.margin_rows.proofs.Spanned.{first_step_small}
use Rattle.margin_rows.proofs.Written.{in_list}

-- what counts where two numbers are the same, and nothing where they differ
pub chosen : (k i n : ℕ) → k ≡ i → (if k == i then n else 0) ≡ n
chosen k i n same = grind (arith, nat_tests)

pub not_chosen : (k i n : ℕ) → k ≢ i → (if k == i then n else 0) ≡ 0
not_chosen k i n apart = grind (arith, nat_tests)

-- the part of a term's own relay
pub part_is : (case : Case) (term : Term) (step w t : ℕ) → w ≡ weight_of case.study term.fault → t ≡ (time_at case term.fault term.relay step).lower → w * t ≡ term_part case term.relay step term
part_is case term step w t weight time = rw (weight, time) (sym (chosen term.relay term.relay _ refl))

-- the time of a term's relay as the code reads it
pub record IsTimeRead (case : Case) (times : List Ends) (term : Term) (start step : ℕ) : Type 0 where
  pub within : start + step < length times
  pub time : get_or times (start + step) no_time ≡ ends_of (time_at case term.fault term.relay step)
  pub ordinary : IsOrdinary (time_at case term.fault term.relay step)
  pub facts : IsTermOf case term

pub time_read : (case : Case) (times : List Ends) (term : Term) (start step : ℕ) → FitsCase case → Contains (terms_in case) term → HoldsRun case times term.fault term.relay start → IsFirstStep case term.relay step
    → IsTimeRead case times term start step
time_read case times term start step fits listed run first =
    let used = term_used case term listed in
    let found = run_time case times term.fault term.relay start step used first run in
    record {
      within = slice_get_within times (start + step) _ found;
      time = get_or_from_slice_get times (start + step) _ no_time found;
      ordinary = first_ordinary case term.fault term.relay step fits used first;
      facts = term_facts case term listed;
    }

-- the span of a relay, and the run of a term, as the code reads them
pub span_read : (case : Case) (spans : List (Option (ℕ × ℕ))) (i n : ℕ) → ((k : ℕ) → k < length case.study.relays → IsSomeAnd (slice_get spans k) (IsFirstSpanOf case k)) → i < length case.study.relays → n ≡ i
    → (n < length spans) × IsFirstSpanOf case i (get_or spans n None)
span_read case spans i n each below is =
    let found = some_and (slice_get spans i) (IsFirstSpanOf case i) (each i below) in
    let P : Option (ℕ × ℕ) → Type 0 = λ o. IsFirstSpanOf case i o in
    rw is (slice_get_within spans i found.0 found.1, subst P (sym (get_or_from_slice_get spans i found.0 None found.1)) found.2)

pub run_read : (case : Case) (times : List Ends) (terms : List Term) (starts : List ℕ) (number : ℕ) (d : Term) → terms ≡ terms_in case → number < length terms → HoldTermRuns case times starts
    → HoldsRun case times (get_or terms number d).fault (get_or terms number d).relay (get_or starts number 0)
run_read case times terms starts number d same below runs =
    let P : Term → Type 0 = λ t. HoldsRun case times t.fault t.relay (get_or starts number 0) in
    let T : List Term → Type 0 = λ ts. P (get_or ts number d) in
    let found = some_and (slice_get (terms_in case) number) (λ t. HoldsRun case times t.fault t.relay (slice_index starts number)) (runs.each number (omega (arith, runs.count, below, ap (λ (ts : List Term). length ts) same))) in
    subst T (sym same) (subst P (sym (get_or_from_slice_get (terms_in case) number found.0 d found.1)) found.2)

-- a weighted time is small, and so is the sum over all terms
pub weighted_small : (case : Case) (f i step w : ℕ) → IsOrdinary (time_at case f i step) → w ≤ 1000 → w * (time_at case f i step).lower ≤ 2 ^ 50
weighted_small case f i step w ordinary few =
    omega (arith, mul-le w (time_at case f i step).lower 1000 (2 ^ 40) few (omega (arith, ordinary.ordered, ordinary.small)))

part_small : (case : Case) (i step : ℕ) (term : Term) → FitsCase case → Contains (terms_in case) term → IsFirstStep case i step → term_part case i step term ≤ 2 ^ 50
part_small case i step term fits listed first = elim (cases_eq term.relay i) [
  | inl same ↦
      let P : ℕ → Type 0 = λ k. IsFirstStep case k step in
      let Q : ℕ → Type 0 = λ k. term_part case k step term ≤ 2 ^ 50 in
      let ordinary = first_ordinary case term.fault term.relay step fits (term_used case term listed) (subst P (sym same) first) in
      let few = (weight_there case case.study term.fault term.fault (in_list case.study.faults term.fault (term_facts case term listed).fault).0 fits.study refl refl (term_facts case term listed).fault) in
      subst Q same (rw (chosen term.relay term.relay _ refl) (weighted_small case term.fault term.relay step _ ordinary (omega (arith, few.0, few.1))))
  | inr apart ↦ rw (not_chosen term.relay i _ apart) (omega arith)
]

pub sum_small : (case : Case) (i step : ℕ) → FitsCase case → IsFirstStep case i step → term_sum case i step ≤ 2 ^ 59
sum_small case i step fits first =
    let each : All (λ t. term_part case i step t ≤ 2 ^ 50) (terms_in case) = λ k d below. part_small case i step (get_or (terms_in case) k d) fits (Contains-get_or (terms_in case) k d below) first in
    omega (arith, sum_by-le (term_part case i step) (2 ^ 50) (terms_in case) each, terms_few case fits.study)

-- the weighted times of a term are added at its relay's steps from `low` up to, but not including, `past`
pub record IsAdded (case : Case) (term : Term) (low past : ℕ) (old new : List ℕ) : Type 0 where
  pub size : length new ≡ length old
  pub here : (step : ℕ) → low ≤ step → step < past → get_or new (term.relay * 64 + step) 0 ≡ get_or old (term.relay * 64 + step) 0 + term_part case term.relay step term
  pub others : (p : ℕ) → ((step : ℕ) → low ≤ step → step < past → p ≢ term.relay * 64 + step) → get_or new p 0 ≡ get_or old p 0

-- one step more
pub one_added : (case : Case) (term : Term) (low step value : ℕ) (old mid new : List ℕ) → low ≤ step → IsAdded case term low step old mid → term.relay * 64 + step < length mid
    → value ≡ get_or mid (term.relay * 64 + step) 0 + term_part case term.relay step term → new ≡ set mid (term.relay * 64 + step) value → IsAdded case term low (step + 1) old new
one_added case term low step value old mid new above so_far within is written =
    let kept : get_or mid (term.relay * 64 + step) 0 ≡ get_or old (term.relay * 64 + step) 0 = so_far.others (term.relay * 64 + step) (λ k from below place. omega (arith, below, place)) in
    rw written (record {
      size = length-set mid (term.relay * 64 + step) value ∙ so_far.size;
      here = λ s from before. elim (cases_eq s step) [
        | inl same ↦
            let T : ℕ → Type 0 = λ k. get_or (set mid (term.relay * 64 + step) value) (term.relay * 64 + k) 0 ≡ get_or old (term.relay * 64 + k) 0 + term_part case term.relay k term in
            subst T (sym same) (get_or-set_same mid (term.relay * 64 + step) value 0 within ∙ is ∙ ap (λ (k : ℕ). k + term_part case term.relay step term) kept)
        | inr apart ↦ get_or-set_other mid (term.relay * 64 + step) (term.relay * 64 + s) value 0 (λ place. apart (omega (arith, place))) ∙ so_far.here s from (omega (arith, before, apart))
      ];
      others = λ p apart.
          get_or-set_other mid (term.relay * 64 + step) p value 0 (apart step above (omega arith)) ∙ so_far.others p (λ s from before. apart s from (omega (arith, before)));
    })

-- a step of the first box has its place in the table
pub place_within : (case : Case) (relay step size : ℕ) → FitsCase case → IsFirstStep case relay step → size ≡ length case.study.relays * 64 → relay * 64 + step < size
place_within case relay step size fits first is =
    let found = some_and (slice_get case.study.relays relay) (λ r. (step < r.plug_count) × IsSensible case.study case.currents relay r step) first in
    omega (arith, is, slice_get_within case.study.relays relay found.0 found.1, first_step_small case relay step fits first)

-- over the steps of the first box every relay has its part of the term
pub all_added : (case : Case) (term : Term) (low high past : ℕ) (old new : List ℕ) → FitsCase case → IsFirstSpan case term.relay low high → past ≡ high + 1 → IsAdded case term low past old new
    → (i step : ℕ) → IsFirstStep case i step → get_or new (i * 64 + step) 0 ≡ get_or old (i * 64 + step) 0 + term_part case i step term
all_added case term low high past old new fits span end added i step first = elim (cases_eq term.relay i) [
  | inl same ↦
      let P : ℕ → Type 0 = λ k. IsFirstStep case k step in
      let T : ℕ → Type 0 = λ k. get_or new (k * 64 + step) 0 ≡ get_or old (k * 64 + step) 0 + term_part case k step term in
      let inside = span.no_other step (subst P (sym same) first) in
      subst T same (added.here step inside.0 (omega (arith, inside.1, end)))
  | inr apart ↦
      let few = first_step_small case i step fits first in
      let kept = added.others (i * 64 + step) (λ s from before place.
      apart (sym (same_from_place i step term.relay s 64 few (first_step_small case term.relay s fits (span.inside s from (omega (arith, before, end)))) place).0)) in
      rw (not_chosen term.relay i (weight_of case.study term.fault * (time_at case term.fault i step).lower) apart) (omega (arith, kept))
]

-- a sum over some of the terms is small
pub sums_small : (case : Case) (number i step : ℕ) (table : List ℕ) → FitsCase case → HoldsSums case (take number (terms_in case)) table → IsFirstStep case i step → get_or table (i * 64 + step) 0 ≤ 2 ^ 59
sums_small case number i step table fits holds first =
    omega (arith, holds.each i step first, sum_by-take-le (term_part case i step) (terms_in case) number, sum_small case i step fits first)
