-- Laws of the first open leaf, and of a tree after one turn, for those who build on this crate.
use Rattle.std.proofs.Common.{◌≡◌, ℕ, ◌+◌, ◌<◌, ◌≤◌, List, [], ◌∷◌, ◌++◌, length, arith, subst, refl}
use Rattle.std.specs.Prelude.{zero, suc, Contains, All}
use Rattle.std.specs.List.{slice_get}
use Rattle.std.specs.declared.option.Option.{Option}
use Rattle.std.specs.declared.option.Option.TheVariants.{None, Some}
use Rattle.std.proofs.lemmas.Option.{slice_get_within}
use Rattle.std.proofs.lemmas.List.Elements.{Contains-append_left, Contains-append_right, All-contains, All-nil, All-cons, All-head, All-tail, All-append}
use Rattle.search_tree.specs.declared.slot.Slot.{Slot}
use Rattle.search_tree.specs.declared.slot.Slot.TheVariants.{Split, Closed, Open}
use Rattle.search_tree.specs.Plan.{Plan, split, closed, opened, node_of, plan_from, plan_at, plan_of, entries, HasOpen, open_here, open_low, open_high}
use Rattle.search_tree.specs.Steps.{ComesBy, IsFirst, IsLead, Turns, turn_here, turn_low, turn_high}

module _ {X : Type 0} (P : X → Type 0) where
  all_left : (xs ys : List X) → All P (xs ++ ys) → All P xs
  all_left [] ys all = All-nil P
  all_left (x ∷ xs) ys all = All-cons P x xs (All-head P x (xs ++ ys) all) (all_left xs ys (All-tail P x (xs ++ ys) all))

  all_right : (xs ys : List X) → All P (xs ++ ys) → All P ys
  all_right [] ys all = all
  all_right (x ∷ xs) ys all = all_right xs ys (All-tail P x (xs ++ ys) all)

module _ {T : Type 0} where
  -- an open leaf is listed with its bound and its number
  pub open_entry : (p : Plan T) {n b : ℕ} {v : T} → HasOpen n b v p → Contains (entries p) (b, n)
  open_entry (split m r a l h) (open_low at) = Contains-append_left (entries l) (entries h) _ (open_entry l at)
  open_entry (split m r a l h) (open_high at) = Contains-append_right (entries l) (entries h) _ (open_entry h at)
  open_entry (closed m leaf) at = elim at [ ]
  open_entry (opened m b v) open_here = (0, omega arith, refl)

  -- what holds of each open leaf holds of each entry
  pub all_open : (P : ℕ × ℕ → Type 0) (p : Plan T) → ((n b : ℕ) (v : T) → HasOpen n b v p → P (b, n)) → All P (entries p)
  all_open P (split m r a l h) each = All-append P (entries l) (entries h) (all_open P l (λ n b v at. each n b v (open_low at))) (all_open P h (λ n b v at. each n b v (open_high at)))
  all_open P (closed m leaf) each = All-nil P
  all_open P (opened m b v) each = All-cons P (b, m) [] (each m b v open_here) (All-nil P)

  module _ (slots : List (Slot T)) where
    abbrev IsWithin : ℕ × ℕ → Type 0
    IsWithin e = e.1 < length slots

    within_node : (below : ℕ → Plan T) → ((n : ℕ) → All IsWithin (entries (below n))) → (n : ℕ) (o : Option (Slot T)) → slice_get slots n ≡ o → All IsWithin (entries (node_of below n o))
    within_node below each n None is = All-nil IsWithin
    within_node below each n (Some (Split relay at low)) is = All-append IsWithin (entries (below low)) (entries (below (low + 1))) (each low) (each (low + 1))
    within_node below each n (Some (Closed leaf)) is = All-nil IsWithin
    within_node below each n (Some (Open b v)) is = All-cons IsWithin (b, n) [] (slice_get_within slots n (Open b v) is) (All-nil IsWithin)

    within_from : (most n : ℕ) → All IsWithin (entries (plan_from most slots n))
    within_from zero n = All-nil IsWithin
    within_from (suc most) n = within_node (λ k. plan_from most slots k) (within_from most) n (slice_get slots n) refl

  -- the open leaves have numbers below the count of slots
  pub open_within : (slots : List (Slot T)) → All (λ e. e.1 < length slots) (entries (plan_of slots))
  unfolding plan_at
  open_within slots = within_from slots (length slots) 0

  -- only one open leaf comes first
  pub first_once : (p : Plan T) (n m : ℕ) (v w : T) → IsFirst p n v → IsFirst p m w → (m ≡ n) × (w ≡ v)
  first_once p n m v w first other =
      let a = All-contains (ComesBy (first.bound, n)) (entries p) (other.bound, m) first.least (open_entry p other.open_leaf) in
      let b = All-contains (ComesBy (other.bound, m)) (entries p) (first.bound, n) other.least (open_entry p first.open_leaf) in
      let x = a.0 in
      let y = b.0 in
      let s : other.bound ≡ first.bound = omega arith in
      let u = a.1 (omega arith) in
      let t = b.1 s in
      let same : m ≡ n = omega arith in
      (same, first.only other.bound w (subst (λ k. HasOpen k other.bound w p) same other.open_leaf))

  -- the open leaf that comes first has the least bound
  pub lead_first : (p : Plan T) (least n : ℕ) (v : T) → IsLead p (Some least) → (first : IsFirst p n v) → first.bound ≡ least
  lead_first p least n v lead first =
      let at = lead.0 in
      let a = All-contains (ComesBy (first.bound, n)) (entries p) (least, at.0) first.least at.1 in
      let x = a.0 in
      let y = All-contains (λ e. least ≤ e.0) (entries p) (first.bound, n) lead.1 (open_entry p first.open_leaf) in
      omega arith

  -- what holds of all open leaves, and of those of the tree that comes in, holds of all open leaves after the turn
  pub turn_all : (P : ℕ × ℕ → Type 0) (Q : ℕ → T → Plan T → Type 0) → ((n : ℕ) (v : T) (new : Plan T) → Q n v new → All P (entries new))
      → {before after : Plan T} → Turns Q before after → All P (entries before) → All P (entries after)
  turn_all P Q ok (turn_low {l = l} {h = h} {after = new} t) all =
      All-append P (entries new) (entries h) (turn_all P Q ok t (all_left P (entries l) (entries h) all)) (all_right P (entries l) (entries h) all)
  turn_all P Q ok (turn_high {l = l} {h = h} {after = new} t) all =
      All-append P (entries l) (entries new) (all_left P (entries l) (entries h) all) (turn_all P Q ok t (all_right P (entries l) (entries h) all))
  turn_all P Q ok (turn_here {number = n} {value = v} {after = new} q) all = ok n v new q

  -- what is known of the tree that comes in may be told in other words
  pub turn_map : (P Q : ℕ → T → Plan T → Type 0) → ((n : ℕ) (v : T) (new : Plan T) → P n v new → Q n v new) → {before after : Plan T} → Turns P before after → Turns Q before after
  turn_map P Q f (turn_low t) = turn_low (turn_map P Q f t)
  turn_map P Q f (turn_high t) = turn_high (turn_map P Q f t)
  turn_map P Q f (turn_here {number = n} {value = v} {after = new} p) = turn_here (f n v new p)
