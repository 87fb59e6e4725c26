-- The weights of rows that touch a relay are all that count for it.
use Rattle.std.specs.Prelude.{◌==◌, ◌||◌, ℤ, ◌≤ℤ◌}
use Rattle.std.specs.List.{filter, sum_by}
use Rattle.std.proofs.Common.{◌≡◌, ℕ, ◌+◌, ◌*◌, ◌<◌, Bool, true, false, cond, List, [], ◌∷◌, ◌++◌, length, get_or, set, take, arith, refl, sym, ap, ◌∙◌, subst}
use Rattle.std.proofs.lemmas.List.{take_more_set, append-nil}
use Rattle.std.proofs.lemmas.List.Elements.{All-filter, filter_more}
use Rattle.std.proofs.lemmas.List.Sums.{sum_by-cons, length-filter, count_by-le-length}
use Rattle.coord_model.specs.Dial.{dial_at_step}
use Rattle.coord_model.specs.declared.weights.Weight.{Weight}
use Rattle.margin_rows.specs.Case.{Case, row_at, rows_in}
use Rattle.margin_rows.specs.Demands.{fast_part, slow_part}
use Rattle.margin_rows.specs.Price.{term_sum}
use Rattle.margin_rows.specs.Times.{time_at}
use Rattle.margin_rows.specs.declared.span.Steps.{Steps}
use Rattle.box_bound.specs.RelayParts.{IsLeastPart, at_dial, backup_part, gain, loss, part, primary_part}
use Rattle.box_bound.specs.Weighing.{FitWeights, touches, touching}

-- a sum over what passes a test is the sum over all, where the others count 0
sum_of_kept : {X : Type 0} (p : X → Bool) (f : X → ℕ) (xs : List X) → ((x : X) → p x ≡ false → f x ≡ 0) → sum_by f (filter p xs) ≡ sum_by f xs
sum_of_kept p f [] none = refl
sum_of_kept {X} p f (x ∷ xs) none = go p f x xs (p x) refl (none x) (sum_of_kept p f xs none)
  where
    go : (p : X → Bool) (f : X → ℕ) (x : X) (xs : List X) (b : Bool) → p x ≡ b → (p x ≡ false → f x ≡ 0) → sum_by f (filter p xs) ≡ sum_by f xs → sum_by f (cond b (x ∷ filter p xs) (filter p xs)) ≡ sum_by f (x ∷ xs)
    go p f x xs true is zero others = sum_by-cons f x (filter p xs) ∙ ap (λ (n : ℕ). f x + n) others ∙ sym (sum_by-cons f x xs)
    go p f x xs false is zero others = let none = zero is in let all = sum_by-cons f x xs in omega (arith, none, others, all)

-- a row that does not touch the relay counts nothing for it
no_primary : (a b : Bool) (n : ℕ) → (a || b) ≡ false → cond a n 0 ≡ 0
no_primary true b n apart = absurd cc
no_primary false b n apart = refl

no_backup : (a b : Bool) (n : ℕ) → (a || b) ≡ false → cond b n 0 ≡ 0
no_backup true b n apart = absurd cc
no_backup false true n apart = absurd cc
no_backup false false n apart = refl

module _ (case : Case) (lambda : ℕ) (ws : List Weight) (i : ℕ) where
  same_part : (step dial : ℕ) → part case lambda (touching case i ws) i step dial ≡ part case lambda ws i step dial
  same_part step dial =
      let gained = sum_of_kept (touches case i) (primary_part case i step) ws (λ w apart. let row = row_at case w.row in no_primary (row.primary == i) (row.backup == i) (fast_part row.kind (w.weight * (time_at case row.fault i step).lower)) apart) in
      let lost = sum_of_kept (touches case i) (backup_part case i step) ws (λ w apart. let row = row_at case w.row in no_backup (row.primary == i) (row.backup == i) (slow_part row.kind (w.weight * (time_at case row.fault i step).upper)) apart) in
      ap (λ (n : ℕ). at_dial (dial_at_step case.study i dial) (lambda * term_sum case i step + n) (loss case (touching case i ws) i step)) gained
      ∙ ap (λ (n : ℕ). at_dial (dial_at_step case.study i dial) (gain case lambda ws i step) n) lost

  -- so the least part is the same
  pub least_of_all : (pickups dials : Steps) (least : ℤ) → IsLeastPart case lambda (touching case i ws) i pickups dials least → IsLeastPart case lambda ws i pickups dials least
  least_of_all pickups dials least is = record {
    none_less = λ step dial inside end. subst (λ (z : ℤ). least ≤ℤ z) (same_part step dial) (is.none_less step dial inside end);
    one = (is.one.0, is.one.1, is.one.2, is.one.3, is.one.4 ∙ same_part is.one.0 is.one.1);
  }

-- they are of rows of the case, and at most as many
pub fit_touching : (case : Case) (i : ℕ) (ws : List Weight) → FitWeights case ws → FitWeights case (touching case i ws)
fit_touching case i ws fit = record {
  rows = All-filter (touches case i) (λ w. w.row < length (rows_in case)) ws fit.rows;
  few = omega (arith, length-filter (touches case i) ws, count_by-le-length (touches case i) ws, fit.few);
}

module _ (case : Case) (i : ℕ) (ws : List Weight) (index : ℕ) (w : Weight) (below : index < length ws) where
  -- one weight more that touches the relay, put behind those in the front
  pub one_more : (count : ℕ) (front later : List Weight) → take count front ≡ touching case i (take index ws) → count < length front → touches case i (get_or ws index w) ≡ true → later ≡ set front count (get_or ws index w)
      → take (count + 1) later ≡ touching case i (take (index + 1) ws)
  one_more count front later so_far room passes put =
      ap (λ (xs : List Weight). take (count + 1) xs) put ∙ take_more_set front count (get_or ws index w) room ∙ ap (λ (xs : List Weight). xs ++ get_or ws index w ∷ []) so_far
      ∙ sym (filter_more (touches case i) ws index w below ∙ ap (λ (b : Bool). touching case i (take index ws) ++ cond b (get_or ws index w ∷ []) []) passes)

  -- one that does not
  pub none_more : touches case i (get_or ws index w) ≡ false → touching case i (take (index + 1) ws) ≡ touching case i (take index ws)
  none_more apart =
      filter_more (touches case i) ws index w below ∙ ap (λ (b : Bool). touching case i (take index ws) ++ cond b (get_or ws index w ∷ []) []) apart ∙ append-nil (touching case i (take index ws))
