-- Names that differ, and their numbers.
use Rattle.std.specs.Prelude.{nat_lt, fold}
use Rattle.std.specs.Cmp.Lexicographic.{bytes_decides, nat_list_eq_equiv}
use Rattle.std.specs.List.{IsDistinct, list_any, position_or_len}
use Rattle.std.specs.Str.{bytes_eq}
use Rattle.std.proofs.Common.{◌≡◌, ◌≢◌, ℕ, ◌<◌, true, false, List, [], ◌∷◌, ◌++◌, length, get_or, Some, refl, sym, ap, ◌∙◌, inl, inr, arith}
use Rattle.std.proofs.lemmas.Bool.{cases_Bool}
use Rattle.std.proofs.lemmas.Bool.Decides.{nat_tests}
use Rattle.std.proofs.lemmas.List.{get_or_append_left, get_or_at, length-append}
use Rattle.std.proofs.lemmas.List.Folds.{list_any_none}
use Rattle.std.proofs.lemmas.List.Sums.{position_or_len_is}
use Rattle.std.proofs.lemmas.Map.Keys.{apart_from_distinct, IsDistinct-push}
use Rattle.indexmap.specs.IndexSet.{insert_key}
use Rattle.coord_model.specs.declared.name.Name.{Name}
use Rattle.network_file.specs.Names.{named, number_in, with_ends, buses_of}
use Rattle.network_file.specs.declared.entries.LineEntry.{LineEntry}

-- a number below the count is found again by its name
pub number_again : (names : List Name) (number : ℕ) → IsDistinct bytes_eq names → number < length names
    → number_in names (named names number) ≡ Some number
number_again names number differ within =
    let name = get_or names number [] in
    let first : position_or_len (bytes_eq name) names ≡ number =
    position_or_len_is (bytes_eq name) names number [] (omega arith)
    (λ k before. nat_list_eq_equiv.symm name (get_or names k []) ∙ apart_from_distinct bytes_eq names k number [] differ before within)
    (λ _. nat_list_eq_equiv.refl name) in
    let below : nat_lt number (length names) ≡ true = grind (arith, nat_tests) in
    rw (first, below)

-- names of two numbers differ
pub ends_differ : (names : List Name) (from to : ℕ) → IsDistinct bytes_eq names → from < length names → to < length names → from ≢ to
    → bytes_eq (named names from) (named names to) ≡ false
ends_differ names from to differ from_within to_within other =
    elim (cases_Bool (bytes_eq (named names from) (named names to))) [
      | inl same ↦
          let one : named names from ≡ named names to = (bytes_decides (named names from) (named names to)).0 same in
          let numbers = sym (number_again names from differ from_within) ∙ ap (number_in names) one ∙ number_again names to differ to_within in
          absurd (other (cc))
      | inr apart ↦ apart
    ]

-- a name among names that differ is none of those before it
pub absent_name : (before : List Name) (name : Name) (rest : List Name) → IsDistinct bytes_eq (before ++ name ∷ rest) → list_any (bytes_eq name) before ≡ false
absent_name before name rest differ =
    list_any_none (bytes_eq name) before (λ k d within.
    let all = before ++ name ∷ rest in
    let more : length before < length all = omega (arith, length-append before (name ∷ rest)) in
    let apart = apart_from_distinct bytes_eq all k (length before) d differ within more in
    nat_list_eq_equiv.symm name (get_or before k d)
    ∙ rw (get_or_append_left before (name ∷ rest) d k within, get_or_at before name rest d (length before) refl) at apart)

-- the buses of lines differ
with_name : (names : List Name) (name : Name) → IsDistinct bytes_eq names → IsDistinct bytes_eq (insert_key bytes_eq names name)
with_name names name differ =
    elim (cases_Bool (list_any (bytes_eq name) names)) [
      | inl there ↦ rw there differ
      | inr none ↦ rw none (IsDistinct-push nat_list_eq_equiv names name differ none)
    ]

with_lines : (names : List Name) (lines : List LineEntry) → IsDistinct bytes_eq names → IsDistinct bytes_eq (fold with_ends names lines)
with_lines names [] differ = differ
with_lines names (line ∷ lines) differ =
    with_lines (with_ends names line) lines (with_name (insert_key bytes_eq names line.from) line.to (with_name names line.from differ))

pub buses_differ : (lines : List LineEntry) → IsDistinct bytes_eq (buses_of lines)
unfolding buses_of IsDistinct
buses_differ lines = with_lines [] lines tt
