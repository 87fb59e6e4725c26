-- The tree that stands in a table of slots, and the table after one slot was written.
use Rattle.std.proofs.Common.{◌≡◌, ℕ, ◌≤◌, ◌<◌, ◌+◌, List, length, refl, arith}
use Rattle.std.specs.Prelude.{zero, suc, ◌≢◌}
use Rattle.std.specs.List.{slice_get}
use Rattle.std.specs.declared.option.Option.TheVariants.{Some}
use Rattle.std.proofs.lemmas.Option.{slice_get_within}
use Rattle.std.proofs.lemmas.Grind.{common_steps}
use Rattle.search_tree.specs.declared.slot.Slot.{Slot}
use Rattle.search_tree.specs.Plan.{Plan, split, closed, opened, number_of, plan_from}
use Rattle.search_tree.specs.Arena.{Stands, times}

module _ {T : Type 0} where
  -- a node that stands has its number within the table
  pub stands_within : (slots : List (Slot T)) (p : Plan T) → Stands slots p → number_of p < length slots
  stands_within slots (split n r a l h) s = slice_get_within slots n _ s.0
  stands_within slots (closed n leaf) s = slice_get_within slots n _ s
  stands_within slots (opened n b v) s = slice_get_within slots n _ s

  -- the tree that stands is the one that is read from its number down
  pub plan_again : (most : ℕ) (slots : List (Slot T)) (p : Plan T) → Stands slots p → length slots ≤ number_of p + most → plan_from most slots (number_of p) ≡ p
  plan_again zero slots p s enough = let w = stands_within slots p s in absurd (omega arith)
  plan_again (suc most) slots (split n r a l h) s enough =
      let low = plan_again most slots l s.3 (let o = s.2 in omega arith) in
      let high = plan_again most slots h s.4 (let o = s.2 in let e = s.1 in omega arith) in
      rw (s.0, low, ← s.1, high) refl
  plan_again (suc most) slots (closed n leaf) s enough = rw s refl
  plan_again (suc most) slots (opened n b v) s enough = rw s refl

  -- the other table has all that the first has, but for one number
  abbrev pub Agree : List (Slot T) → List (Slot T) → ℕ → Type 0
  Agree slots later n = (k : ℕ) (s : Slot T) → k ≢ n → slice_get slots k ≡ Some s → slice_get later k ≡ Some s

  -- a tree without that number stands in the other table too
  pub stands_kept : (slots later : List (Slot T)) (n : ℕ) (p : Plan T) → Agree slots later n → times n p ≡ 0 → Stands slots p → Stands later p
  stands_kept slots later n (split m r a l h) agree none s = (
    agree m _ (grind (arith, common_steps)) s.0,
    s.1,
    s.2,
    stands_kept slots later n l agree (omega arith) s.3,
    stands_kept slots later n h agree (omega arith) s.4,
  )
  stands_kept slots later n (closed m leaf) agree none s = agree m _ (grind (arith, common_steps)) s
  stands_kept slots later n (opened m b v) agree none s = agree m _ (grind (arith, common_steps)) s
