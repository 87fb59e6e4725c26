-- The tree that is taken out of the table, node by node.
use Rattle.std.proofs.Common.{◌≡◌, ℕ, ◌≤◌, ◌<◌, ◌+◌, ◌==◌, List, length, refl, arith, subst, sym, ap, ◌∙◌, set}
use Rattle.std.specs.Prelude.{zero, suc, ◌≢◌, if◌then◌else◌}
use Rattle.std.specs.List.{slice_get}
use Rattle.std.specs.declared.option.Option.{Option}
use Rattle.std.specs.declared.option.Option.TheVariants.{None, Some}
use Rattle.std.proofs.lemmas.List.{length-set}
use Rattle.std.proofs.lemmas.Option.{slice_get_within}
use Rattle.std.proofs.lemmas.Grind.{common_steps}
use Rattle.search_tree.specs.declared.leaf.Leaf.{Leaf}
use Rattle.search_tree.specs.declared.slot.Slot.{Slot}
use Rattle.search_tree.specs.declared.slot.Slot.TheVariants.{Split, Closed, Open}
use Rattle.coord_model.specs.Tree.{Tree, split as split_tree}
use Rattle.search_tree.specs.Harvest.{tree_of}
use Rattle.search_tree.specs.Plan.{Plan, split, closed, opened, number_of, node_of, plan_from, plan_at}
use Rattle.search_tree.specs.Arena.{Stands, times, IsTreeAt, Spares}
use Rattle.search_tree.proofs.Places.{kept_at}
use Rattle.search_tree.proofs.Standing.{plan_again, stands_within}
use Rattle.search_tree.proofs.Arenas.{plan_number}

module _ {T : Type 0} where
  plan_at_number : (slots : List (Slot T)) (n : ℕ) → number_of (plan_at slots n) ≡ n
  unfolding plan_at
  plan_at_number slots n = plan_number (length slots) slots n

  plan_at_again : (slots : List (Slot T)) (p : Plan T) (n : ℕ) → number_of p ≡ n → Stands slots p → plan_at slots n ≡ p
  unfolding plan_at
  plan_at_again slots p n e s = subst (λ k. plan_from (length slots) slots k ≡ p) e (plan_again (length slots) slots p s (omega arith))

  -- a number that a tree has is its root or in what is below
  stands_apart : (slots later : List (Slot T)) (p : Plan T) → ((k : ℕ) → 1 ≤ times k p → slice_get later k ≡ slice_get slots k) → Stands slots p → Stands later p
  stands_apart slots later (split n r a l h) same s = (
    same n (grind (arith, common_steps)) ∙ s.0,
    s.1,
    s.2,
    stands_apart slots later l (λ k some. same k (omega arith)) s.3,
    stands_apart slots later h (λ k some. same k (omega arith)) s.4,
  )
  stands_apart slots later (closed n leaf) same s = same n (grind (arith, common_steps)) ∙ s
  stands_apart slots later (opened n b v) same s = same n (grind (arith, common_steps)) ∙ s

  -- a tree is the same in a table that has all its slots
  pub tree_moved : (slots later : List (Slot T)) (n : ℕ) → IsTreeAt slots n → ((k : ℕ) → 1 ≤ times k (plan_at slots n) → slice_get later k ≡ slice_get slots k)
      → (plan_at later n ≡ plan_at slots n) × IsTreeAt later n
  tree_moved slots later n t same =
      let p = plan_at slots n in
      let stands = stands_apart slots later p same t.stands in
      let is = plan_at_again later p n (plan_at_number slots n) stands in
      (is, record { stands = subst (Stands later) (sym is) stands; once = λ k. subst (λ q. times k q ≤ 1) (sym is) (t.once k) })

  from_slot : (most : ℕ) (slots : List (Slot T)) (n : ℕ) (s : Slot T) → n < most → slice_get slots n ≡ Some s → (below : ℕ → Plan T) × (plan_from most slots n ≡ node_of below n (Some s))
  from_slot zero slots n s l e = absurd (omega arith)
  from_slot (suc most) slots n s l e = (λ m. plan_from most slots m, ap (node_of (λ m. plan_from most slots m) n) e)

  at_slot : (slots : List (Slot T)) (n : ℕ) (s : Slot T) → slice_get slots n ≡ Some s → (below : ℕ → Plan T) × (plan_at slots n ≡ node_of below n (Some s))
  unfolding plan_at
  at_slot slots n s e = from_slot (length slots) slots n s (slice_get_within slots n s e) e

  pub at_closed : (slots : List (Slot T)) (n : ℕ) (leaf : Leaf) → slice_get slots n ≡ Some (Closed leaf) → plan_at slots n ≡ closed n leaf
  at_closed slots n leaf e = (at_slot slots n (Closed leaf) e).1

  pub at_open : (slots : List (Slot T)) (n b : ℕ) (v : T) → slice_get slots n ≡ Some (Open b v) → plan_at slots n ≡ opened n b v
  at_open slots n b v e = (at_slot slots n (Open b v) e).1

  -- the halves of a split are trees of their own, and all its numbers are theirs but one
  pub record Halves (slots : List (Slot T)) (n relay at low : ℕ) : Type 0 where
    pub is : plan_at slots n ≡ split n relay at (plan_at slots low) (plan_at slots (low + 1))
    pub after : n < low
    pub low_tree : IsTreeAt slots low
    pub high_tree : IsTreeAt slots (low + 1)
    pub apart : (k : ℕ) → (if k == n then 1 else 0) + (times k (plan_at slots low) + times k (plan_at slots (low + 1))) ≤ 1

  abbrev low_of : Option (Slot T) → ℕ
  low_of (Some (Split relay at low)) = low
  low_of (Some (Closed leaf)) = 0
  low_of (Some (Open b v)) = 0
  low_of None = 0

  pub halves : (slots : List (Slot T)) (n relay at low : ℕ) → IsTreeAt slots n → slice_get slots n ≡ Some (Split relay at low) → Halves slots n relay at low
  halves slots n relay at low t e =
      let b = at_slot slots n (Split relay at low) e in
      let l = b.0 low in
      let h = b.0 (low + 1) in
      let s = subst (Stands slots) b.1 t.stands in
      let o : (k : ℕ) → times k (split n relay at l h) ≤ 1 = λ k. subst (λ q. times k q ≤ 1) b.1 (t.once k) in
      let number : number_of l ≡ low = ap low_of (sym s.0 ∙ e) in
      let x = plan_at_again slots l low number s.3 in
      let y = plan_at_again slots h (low + 1) (s.1 ∙ ap (λ k. k + 1) number) s.4 in
      record {
        is = rw (x, y) b.1;
        after = subst (λ k. n < k) number s.2;
        low_tree = record { stands = subst (Stands slots) (sym x) s.3; once = λ k. subst (λ q. times k q ≤ 1) (sym x) (let a = o k in omega arith) };
        high_tree = record { stands = subst (Stands slots) (sym y) s.4; once = λ k. subst (λ q. times k q ≤ 1) (sym y) (let a = o k in omega arith) };
        apart = λ k. rw (x, y) (o k);
      }

  pub length_kept : (slots wrote : List (Slot T)) (n : ℕ) (new : Slot T) → wrote ≡ set slots n new → length wrote ≡ length slots
  length_kept slots wrote n new e = ap length e ∙ length-set slots n new

  -- the table without one slot
  pub others : (slots wrote : List (Slot T)) (n : ℕ) (new : Slot T) → wrote ≡ set slots n new → (k : ℕ) → k ≢ n → slice_get wrote k ≡ slice_get slots k
  others slots wrote n new e k d = ap (λ l. slice_get l k) e ∙ kept_at slots n k new d

  module _ (slots wrote : List (Slot T)) (n relay at low : ℕ) (h : Halves slots n relay at low) (other : (k : ℕ) → k ≢ n → slice_get wrote k ≡ slice_get slots k) where
    -- the low half stays when the split is taken out
    pub low_moved : (plan_at wrote low ≡ plan_at slots low) × IsTreeAt wrote low
    low_moved = tree_moved slots wrote low h.low_tree (λ k some. other k (let a = h.apart k in grind (arith, common_steps)))

    -- the high half stays when the low half is taken out too
    pub high_moved : (later : List (Slot T)) → Spares wrote later (plan_at wrote low) → (plan_at later (low + 1) ≡ plan_at slots (low + 1)) × IsTreeAt later (low + 1)
    high_moved later spares = tree_moved slots later (low + 1) h.high_tree (λ k some.
        let a = h.apart k in
        spares k (rw low_moved.0 (omega arith)) ∙ other k (grind (arith, common_steps)))

    -- after both halves all other slots are kept
    pub both_spared : (later last : List (Slot T)) → Spares wrote later (plan_at wrote low) → Spares later last (plan_at later (low + 1)) → Spares slots last (plan_at slots n)
    both_spared later last first second k none =
        let a : (if k == n then 1 else 0) + (times k (plan_at slots low) + times k (plan_at slots (low + 1))) ≡ 0 = subst (λ p. times k p ≡ 0) h.is none in
        second k (rw (high_moved later first).0 (omega arith)) ∙ first k (rw low_moved.0 (omega arith)) ∙ other k (grind (arith, common_steps))

    -- the tree of the split is that of its halves
    pub whole_split : (turned : T → Tree) (later : List (Slot T)) → Spares wrote later (plan_at wrote low) → (x y : Tree)
        → x ≡ tree_of turned (plan_at wrote low) → y ≡ tree_of turned (plan_at later (low + 1)) → split_tree relay at x y ≡ tree_of turned (plan_at slots n)
    whole_split turned later spares x y p q = rw (p, q, low_moved.0, (high_moved later spares).0, h.is) refl

  pub tree_within : (slots : List (Slot T)) (n : ℕ) → IsTreeAt slots n → n < length slots
  tree_within slots n t = subst (λ k. k < length slots) (plan_at_number slots n) (stands_within slots (plan_at slots n) t.stands)

  apart_root : (p : Plan T) (n k : ℕ) → number_of p ≡ n → times k p ≡ 0 → k ≢ n
  apart_root (split m r a l h) n k e none = grind (arith, common_steps)
  apart_root (closed m leaf) n k e none = grind (arith, common_steps)
  apart_root (opened m b v) n k e none = grind (arith, common_steps)

  -- after a leaf all other slots are kept
  pub leaf_spared : (slots wrote : List (Slot T)) (n : ℕ) → ((k : ℕ) → k ≢ n → slice_get wrote k ≡ slice_get slots k) → Spares slots wrote (plan_at slots n)
  leaf_spared slots wrote n other k none = other k (apart_root (plan_at slots n) n k (plan_at_number slots n) none)
