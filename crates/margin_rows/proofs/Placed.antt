-- Facts of rows and terms by their numbers.
use Rattle.std.specs.Prelude.{slice_get, pos, ◌≤ℤ◌}
use Rattle.std.specs.Option.{IfSome, option_map_or}
use Rattle.std.specs.List.{Contains, All, sum_by}
use Rattle.std.proofs.Common.{◌≡◌, ℕ, ◌+◌, ◌<◌, ◌≤◌, ◌↔◌, List, length, get_or, take, Some, Option, arith, refl, sym, ap, ◌∙◌, subst}
use Rattle.std.proofs.lemmas.Int.{ints}
use Rattle.std.proofs.lemmas.List.{get_or_default}
use Rattle.std.proofs.lemmas.List.Concat.{length-flat_map}
use Rattle.std.proofs.lemmas.List.FromFn.{length-range_with_len}
use Rattle.std.proofs.lemmas.List.Sums.{sum_by-le, sum_by_more}
use Rattle.std.proofs.lemmas.Option.{slice_get-get_or, slice_get_within, get_or_from_slice_get}
use Rattle.coord_model.specs.Rows.{terms_at, fault_numbers}
use Rattle.coord_model.specs.Cost.{weight_of}
use Rattle.coord_model.specs.Limits.{FitsStudy}
use Rattle.coord_model.specs.StudyData.{StudyData}
use Rattle.coord_model.specs.declared.study.Fault.{Fault}
use Rattle.coord_model.specs.declared.study.Row.{Row}
use Rattle.coord_model.specs.declared.study.RowKind.TheVariants.{Interval}
use Rattle.coord_model.specs.declared.study.Term.{Term}
use Rattle.margin_rows.proofs.Primaries.{terms_at_few}
use Rattle.margin_rows.specs.Case.{Case, rows_in, terms_in, row_at, term_at}
use Rattle.margin_rows.specs.Margin.{margin_of, Meets}

-- what is found at a place is in the list
pub found_listed : {X : Type 0} (xs : List X) (i : ℕ) (x : X) → slice_get xs i ≡ Some x → Contains xs x
found_listed xs i x found = (i, slice_get_within xs i x found, get_or_from_slice_get xs i x x found)

pub if_some : {X : Type 0} (o : Option X) (P : X → Type 0) (x : X) → o ≡ Some x → P x → IfSome o P
if_some o P x is fact = rw is fact

pub of_some : {X : Type 0} (o : Option X) (P : X → Type 0) (x : X) → o ≡ Some x → IfSome o P → P x
of_some o P x is fact = rw is at fact

-- a margin is at least 0 exactly where the row is met
pub margin_sign : (study : StudyData) (row : Row) (backup primary : ℕ) → (pos 0 ≤ℤ margin_of study row backup primary) ↔ Meets study row backup primary
margin_sign study row backup primary = (λ h. omega (arith, ints, h), λ h. omega (arith, ints, h))

-- a case has at most two terms for each fault
pub terms_few : (case : Case) → FitsStudy case.study → length (terms_in case) ≤ 512
terms_few case fits =
    let each : All (λ f. length (terms_at case.study case.currents f) ≤ 2) (fault_numbers case.study) = λ k d below. terms_at_few case (get_or (fault_numbers case.study) k d) fits in
    let whole = sum_by-le (λ f. length (terms_at case.study case.currents f)) 2 (fault_numbers case.study) each in
    let count : length (fault_numbers case.study) ≡ length case.study.faults = length-range_with_len 0 (length case.study.faults) in
    omega (arith, length-flat_map (terms_at case.study case.currents) (fault_numbers case.study), rw count at whole, fits.fault_count)

-- the number that the code reads at a place
pub number_read : (xs : List ℕ) (n i x : ℕ) → n ≡ i → i < length xs → x ≡ get_or xs n x → get_or xs i 0 ≡ x
number_read xs n i x same below read = get_or_default xs i 0 x below ∙ ap (λ (k : ℕ). get_or xs k x) (sym same) ∙ sym read

-- a fact of the row with each number is one of all rows
pub all_rows : (case : Case) (P : Row → Type 0) (n : ℕ) → length (rows_in case) ≤ n → ((k : ℕ) → k < n → P (row_at case k)) → All P (rows_in case)
all_rows case P n covers each k d below =
    let d' : Row = record { kind = Interval; fault = 0; backup = 0; primary = 0 } in
    subst P (get_or_default (rows_in case) k d' d below) (each k (omega (arith, below, covers)))

-- the weight of a fault of the study
pub weight_there : (case : Case) (study : StudyData) (f i : ℕ) (d : Fault) → FitsStudy case.study → study ≡ case.study → i ≡ f → f < length case.study.faults
    → ((get_or study.faults i d).weight ≡ weight_of case.study f) × ((get_or study.faults i d).weight ≤ 1000)
weight_there case study f i d fits same is below =
    let found : slice_get case.study.faults f ≡ Some (get_or case.study.faults f d) = slice_get-get_or case.study.faults f d below in
    let weight = weighed (slice_get case.study.faults f) (get_or case.study.faults f d) found in
    let few = (fits.faults f d below).weight.at_most in
    let P : StudyData → ℕ → Type 0 = λ s k. ((get_or s.faults k d).weight ≡ weight_of case.study f) × ((get_or s.faults k d).weight ≤ 1000) in
    rw (same, is) (sym weight, few)
  where
    weighed : (o : Option Fault) (x : Fault) → o ≡ Some x → option_map_or (λ fault. fault.weight) o 0 ≡ x.weight
    weighed o x is = rw is refl

-- one term more in a weighted sum
pub part_more : (case : Case) (part : Term → ℕ) (term sum value result : ℕ) → term < length (terms_in case) → sum ≡ sum_by part (take term (terms_in case)) → result ≡ value → value ≡ part (term_at case term)
    → sum + result ≡ sum_by part (take (term + 1) (terms_in case))
part_more case part term sum value result below so_far same is =
    omega (arith, sum_by_more part (terms_in case) term (record { fault = 0; relay = 0 }) below, so_far, same, is)
