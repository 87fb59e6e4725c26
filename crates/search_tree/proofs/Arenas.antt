-- The tree of a table with its queue: its first open leaf, and the table after one step.
use Rattle.std.proofs.Common.{◌≡◌, ℕ, ◌≤◌, ◌<◌, ◌+◌, List, [], ◌∷◌, length, refl, arith, subst, sym, ap, ◌∙◌}
use Rattle.std.specs.Prelude.{zero, suc, slice_index_or}
use Rattle.std.specs.List.{sum_by, slice_get}
use Rattle.std.specs.declared.option.Option.{Option}
use Rattle.std.specs.declared.option.Option.TheVariants.{None, Some}
use Rattle.std.proofs.lemmas.Option.{slice_get_within, get_or_from_slice_get}
use Rattle.std.proofs.lemmas.Grind.{common_steps}
use Rattle.std.proofs.lemmas.List.Sums.{sum_by-cons}
use Rattle.search_tree.specs.declared.slot.Slot.{Slot}
use Rattle.search_tree.specs.declared.slot.Slot.TheVariants.{Split, Closed, Open}
use Rattle.search_tree.specs.Plan.{Plan, split, closed, opened, number_of, node_of, plan_from, plan_at, plan_of, entries, HasOpen, open_here, open_low, open_high}
use Rattle.search_tree.specs.Steps.{IsFirstOf, IsFirst, IsLead, IsOpen}
use Rattle.search_tree.specs.Arena.{Stands, times, SameMembers, IsArena}
use Rattle.search_tree.proofs.Bags.{same_come, same_listed}
use Rattle.search_tree.proofs.Standing.{Agree, plan_again}
use Rattle.search_tree.proofs.Turning.{turned, number_kept, times_turned, sum_turned, stands_turned, open_listed}

empty_list : {X : Type 0} (xs : List X) → sum_by (λ x. 1) xs ≡ 0 → xs ≡ []
empty_list [] e = refl
empty_list (x ∷ xs) e = let s = sum_by-cons (λ y. 1) x xs in absurd (omega arith)

some_listed : {X : Type 0} (xs ys : List X) → SameMembers xs ys → 0 < length ys → 0 < length xs
some_listed [] ys same some = let e = empty_list ys (sym (same (λ x. 1))) in absurd (let l = ap length e in omega arith)
some_listed (x ∷ xs) ys same some = omega arith

module _ {T : Type 0} where
  node_number : (below : ℕ → Plan T) (n : ℕ) (s : Option (Slot T)) → number_of (node_of below n s) ≡ n
  node_number below n None = refl
  node_number below n (Some (Split relay at low)) = refl
  node_number below n (Some (Closed leaf)) = refl
  node_number below n (Some (Open bound value)) = refl

  pub plan_number : (most : ℕ) (slots : List (Slot T)) (n : ℕ) → number_of (plan_from most slots n) ≡ n
  plan_number zero slots n = refl
  plan_number (suc most) slots n = node_number _ n (slice_get slots n)

  root_number : (slots : List (Slot T)) → number_of (plan_of slots) ≡ 0
  unfolding plan_at
  root_number slots = plan_number (length slots) slots 0

  -- a tree that stands with the root 0 is that of the table
  pub plan_is : (slots : List (Slot T)) (p : Plan T) → number_of p ≡ 0 → Stands slots p → plan_of slots ≡ p
  unfolding plan_at
  plan_is slots p e s = subst (λ n. plan_from (length slots) slots n ≡ p) e (plan_again (length slots) slots p s (omega arith))

  -- the slot of an open leaf
  pub slot_open : (slots : List (Slot T)) (p : Plan T) {n b : ℕ} {v : T} → Stands slots p → HasOpen n b v p → slice_get slots n ≡ Some (Open b v)
  slot_open slots (split m r a l h) s (open_low at) = slot_open slots l s.3 at
  slot_open slots (split m r a l h) s (open_high at) = slot_open slots h s.4 at
  slot_open slots (closed m leaf) s at = elim at [ ]
  slot_open slots (opened m c w) s open_here = s

  abbrev value_in : T → Slot T → T
  value_in d (Open b v) = v
  value_in d (Closed leaf) = d
  value_in d (Split relay at low) = d

  abbrev value_some : T → Option (Slot T) → T
  value_some d None = d
  value_some d (Some slot) = value_in d slot

  -- the entry that comes first in the queue is that of an open leaf of the tree
  pub first_open : (slots : List (Slot T)) (queue : List (ℕ × ℕ)) → IsArena slots queue → (e : ℕ × ℕ) → IsFirstOf queue e → (v : T) × HasOpen e.1 e.0 v (plan_of slots)
  first_open slots queue a e f = open_listed (plan_of slots) e (same_listed e queue _ a.queued f.listed)

  pub first_is : (slots : List (Slot T)) (queue : List (ℕ × ℕ)) → IsArena slots queue → (e : ℕ × ℕ) (v : T) → IsFirstOf queue e → HasOpen e.1 e.0 v (plan_of slots) → IsFirst (plan_of slots) e.1 v
  first_is slots queue a e v f at = record { bound = e.0; open_leaf = at; least = same_come e queue _ a.queued f.least; only = λ b w other. ap (value_some v) (sym (slot_open slots (plan_of slots) a.stands other) ∙ slot_open slots (plan_of slots) a.stands at) }

  pub lead_some : (slots : List (Slot T)) (queue : List (ℕ × ℕ)) → IsArena slots queue → (e : ℕ × ℕ) → IsFirstOf queue e → IsLead (plan_of slots) (Some e.0)
  lead_some slots queue a e f = (
    (e.1, same_listed e queue _ a.queued f.listed),
    λ k d l. (same_come e queue _ a.queued f.least k d l).0,
  )

  pub none_open : (slots : List (Slot T)) (queue : List (ℕ × ℕ)) → IsArena slots queue → queue ≡ [] → entries (plan_of slots) ≡ []
  none_open slots queue a e = empty_list _ (sym (a.queued (λ x. 1)) ∙ ap (sum_by (λ x. 1)) e)

  -- a leaf is open where the queue has a first entry
  pub some_open : (slots : List (Slot T)) (queue : List (ℕ × ℕ)) → IsArena slots queue → (e : ℕ × ℕ) → IsFirstOf queue e → IsOpen (plan_of slots)
  some_open slots queue a e f = let c = same_listed e queue (entries (plan_of slots)) a.queued f.listed in let l = c.1 in omega (arith, l)

  -- where a leaf is open, the queue is not empty
  pub queue_some : (slots : List (Slot T)) (queue : List (ℕ × ℕ)) → IsArena slots queue → IsOpen (plan_of slots) → 0 < length queue
  queue_some slots queue a some = some_listed queue _ a.queued some

  -- the number that comes first is a place of the table
  pub first_within : (slots : List (Slot T)) (queue : List (ℕ × ℕ)) → IsArena slots queue → (e : ℕ × ℕ) → IsFirstOf queue e → e.1 < length slots
  first_within slots queue a e f =
      let at = first_open slots queue a e f in
      slice_get_within slots e.1 _ (slot_open slots (plan_of slots) a.stands at.1)

  -- the slot that comes first is an open one, with the value of the leaf that comes first
  pub first_slot : (slots : List (Slot T)) (queue : List (ℕ × ℕ)) → IsArena slots queue → (e : ℕ × ℕ) → IsFirstOf queue e
      → (s : Slot T) → s ≡ slice_index_or slots e.1 s → (v : T) × (s ≡ Open e.0 v) × IsFirst (plan_of slots) e.1 v
  first_slot slots queue a e f s is =
      let at = first_open slots queue a e f in
      let o = slot_open slots (plan_of slots) a.stands at.1 in
      (at.0, is ∙ get_or_from_slice_get slots e.1 (Open e.0 at.0) s o, first_is slots queue a e at.0 f at.1)

  -- the value of that slot is that of the leaf
  pub first_value : (slots : List (Slot T)) (queue : List (ℕ × ℕ)) → IsArena slots queue → (e : ℕ × ℕ) → IsFirstOf queue e
      → (s : Slot T) → s ≡ slice_index_or slots e.1 s → (b : ℕ) (v : T) → s ≡ Open b v → IsFirst (plan_of slots) e.1 v
  first_value slots queue a e f s is b v o =
      let x = first_slot slots queue a e f s is in
      subst (IsFirst (plan_of slots) e.1) (ap (value_in v) (sym x.1 ∙ o)) x.2

  -- a table of one open leaf
  pub plan_one : (b : ℕ) (v : T) → plan_of (Open b v ∷ []) ≡ opened 0 b v
  unfolding plan_at
  plan_one b v = refl

  pub arena_one : (b : ℕ) (v : T) (queue : List (ℕ × ℕ)) → ((f : ℕ × ℕ → ℕ) → sum_by f queue ≡ f (b, 0)) → IsArena (Open b v ∷ []) queue
  arena_one b v queue sums = record {
    stands = subst (Stands (Open b v ∷ [])) (sym (plan_one b v)) refl;
    once = λ k. subst (λ t. times k t ≤ 1) (sym (plan_one b v)) (grind (arith, common_steps));
    queued = λ f. subst (λ t. sum_by f queue ≡ sum_by f (entries t)) (sym (plan_one b v)) (let s = sums f in omega arith);
    few = omega arith;
  }

  -- the table after the open leaf was turned: its tree, and that table and queue still hold one tree
  pub arena_turned : (slots later : List (Slot T)) (queue rest : List (ℕ × ℕ)) (a : IsArena slots queue) {n b : ℕ} {v : T}
      (at : HasOpen n b v (plan_of slots)) (q : Plan T) → number_of q ≡ n → Stands later q → Agree slots later n
      → ((k : ℕ) → times k (plan_of slots) + times k q ≤ 1 + times k (opened n b v))
      → ((f : ℕ × ℕ → ℕ) → sum_by f rest + f (b, n) ≡ sum_by f queue + sum_by f (entries q))
      → length later ≤ 400001
      → (plan_of later ≡ turned (plan_of slots) at q) × IsArena later rest
  arena_turned slots later queue rest a {n} {b} {v} at q e new agree spare sums few =
      let p = plan_of slots in
      let stands = stands_turned slots later p at q agree (a.once n) e new a.stands in
      let is = plan_is later (turned p at q) (number_kept p at q e ∙ root_number slots) stands in (
        is,
        record {
          stands = subst (Stands later) (sym is) stands;
          once = λ k. subst (λ t. times k t ≤ 1) (sym is) (let t = times_turned k p at q in let s = spare k in omega arith);
          queued = λ f. subst (λ t. sum_by f rest ≡ sum_by f (entries t)) (sym is) (let t = sum_turned f p at q in let s = sums f in let o = a.queued f in omega arith);
          few = few;
        },
      )
