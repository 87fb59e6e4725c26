use Rattle.std.specs.List.{IsDistinct, range_with_len}
use Rattle.std.proofs.Common.{◌==◌, ◌-◌, ℕ, ℤ, List, map, ap, refl, sym, subst, ◌∙◌}
use Rattle.std.proofs.lemmas.Cmp.{nat_eq_equiv}
use Rattle.std.proofs.lemmas.Map.Made.{IsDistinct-from_count}
use Rattle.dual_round.proofs.weights.tests.rows_left.Goals as goal

pub round-requires-clause-distinct : goal.round-requires-clause-distinct
round-requires-clause-distinct c =
    let P : List ℕ → Type 0 = λ rows. IsDistinct ◌==◌ rows in
    subst P (sym (ap (λ (rs : List (ℕ × ℤ)). map (λ r. r.0) rs) c.as_slice.ensures.value ∙ c.in_ok-rows.ensures.rows)) (IsDistinct-from_count nat_eq_equiv (map (λ k. 64 - k) (range_with_len 0 65)) refl)
