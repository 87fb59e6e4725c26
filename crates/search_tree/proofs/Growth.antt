-- One step of a search: the first open leaf is closed, or becomes a split.
use Rattle.std.proofs.Common.{◌≡◌, ℕ, ◌≤◌, ◌+◌, ◌==◌, List, [], ◌∷◌, ◌++◌, length, refl, arith, subst, sym, ◌∙◌, set, length-append}
use Rattle.std.specs.Prelude.{if◌then◌else◌}
use Rattle.std.specs.List.{sum_by}
use Rattle.std.proofs.lemmas.List.{length-set}
use Rattle.std.proofs.lemmas.Grind.{common_steps}
use Rattle.search_tree.specs.declared.leaf.Leaf.{Leaf}
use Rattle.search_tree.specs.declared.slot.Slot.{Slot}
use Rattle.search_tree.specs.declared.slot.Slot.TheVariants.{Split, Closed, Open}
use Rattle.search_tree.specs.Plan.{Plan, split, closed, opened, plan_of}
use Rattle.search_tree.specs.Steps.{IsFirstOf, IsFirst, Closes, IsSplitInto}
use Rattle.search_tree.specs.Arena.{Stands, times, IsArena}
use Rattle.search_tree.proofs.Places.{kept_at, written_at, front_at, back_at}
use Rattle.search_tree.proofs.Standing.{stands_within}
use Rattle.search_tree.proofs.Turning.{turns}
use Rattle.search_tree.proofs.Arenas.{first_open, first_is, first_within, arena_turned}

-- the numbers of a split's halves are new
fresh : (N k t h : ℕ) → t ≤ 1 → (N ≤ k → t ≡ 0) → t + (h + ((if k == N then 1 else 0) + (if k == (N + 1) then 1 else 0))) ≤ 1 + h
fresh N k t h once none = grind (arith, common_steps)

module _ {T : Type 0} where
  -- the table after the first open leaf was closed
  pub closing : (slots : List (Slot T)) (queue rest : List (ℕ × ℕ)) → IsArena slots queue → (e : ℕ × ℕ) → IsFirstOf queue e
      → ((f : ℕ × ℕ → ℕ) → sum_by f queue ≡ f e + sum_by f rest) → (leaf : Leaf)
      → Closes leaf (plan_of slots) (plan_of (set slots e.1 (Closed leaf))) × IsArena (set slots e.1 (Closed leaf)) rest
  closing slots queue rest a e f sums leaf =
      let at = first_open slots queue a e f in
      let later = set slots e.1 (Closed leaf) in
      let few = a.few in
      let long = length-set slots e.1 (Closed leaf) in
      let t = arena_turned slots later queue rest a at.1 (closed e.1 leaf) refl
      (written_at slots e.1 (Closed leaf) (first_within slots queue a e f))
      (λ k s other is. kept_at slots e.1 k (Closed leaf) other ∙ is)
      (λ k. let o = a.once k in omega arith)
      (λ g. let s = sums g in omega arith)
      (omega arith) in (
        subst (Closes leaf (plan_of slots)) (sym t.0) (turns (λ number value after. IsFirst (plan_of slots) number value × (after ≡ closed number leaf)) (plan_of slots) at.1 (closed e.1 leaf) (first_is slots queue a e at.0 f at.1, refl)),
        t.1,
      )

  -- no number from the table's length on is in a tree that stands in it
  none_past : (slots : List (Slot T)) (p : Plan T) (k : ℕ) → Stands slots p → length slots ≤ k → times k p ≡ 0
  none_past slots (split n r a l h) k s past =
      let w = stands_within slots (split n r a l h) s in
      let x = none_past slots l k s.3 past in
      let y = none_past slots h k s.4 past in
      grind (arith, common_steps)
  none_past slots (closed n leaf) k s past = let w = stands_within slots (closed n leaf) s in grind (arith, common_steps)
  none_past slots (opened n b v) k s past = let w = stands_within slots (opened n b v) s in grind (arith, common_steps)

  abbrev pub split_table : List (Slot T) → ℕ → ℕ → ℕ → ℕ × T → ℕ × T → List (Slot T)
  split_table slots n relay at low high = set slots n (Split relay at (length slots)) ++ Open low.0 low.1 ∷ Open high.0 high.1 ∷ []

  -- the table after the first open leaf became a split
  pub splitting : (slots : List (Slot T)) (queue rest : List (ℕ × ℕ)) → IsArena slots queue → (e : ℕ × ℕ) → IsFirstOf queue e
      → (relay at : ℕ) (low high : ℕ × T) → length slots + 2 ≤ 400001
      → ((f : ℕ × ℕ → ℕ) → f (low.0, length slots) + f (high.0, length slots + 1) + sum_by f queue ≡ f e + sum_by f rest)
      → IsSplitInto relay at low high (length slots) (plan_of slots) (plan_of (split_table slots e.1 relay at low high)) × IsArena (split_table slots e.1 relay at low high) rest
  splitting slots queue rest a e f relay at low high room sums =
      let N = length slots in
      let o = first_open slots queue a e f in
      let wrote = set slots e.1 (Split relay at N) in
      let ends = Open low.0 low.1 ∷ Open high.0 high.1 ∷ [] in
      let q = split e.1 relay at (opened N low.0 low.1) (opened (N + 1) high.0 high.1) in
      let within = first_within slots queue a e f in
      let long = length-set slots e.1 (Split relay at N) in
      let stands : Stands (wrote ++ ends) q = (
        front_at wrote ends e.1 _ (written_at slots e.1 (Split relay at N) within),
        refl,
        within,
        back_at wrote ends N 0 (omega arith),
        back_at wrote ends (N + 1) 1 (omega arith),
      ) in
      let t = arena_turned slots (wrote ++ ends) queue rest a o.1 q refl stands
      (λ k s other is. front_at wrote ends k s (kept_at slots e.1 k (Split relay at N) other ∙ is))
      (λ k. fresh N k (times k (plan_of slots)) _ (a.once k) (none_past slots (plan_of slots) k a.stands))
      (λ g. let s = sums g in omega arith)
      (let l = length-append wrote ends in omega arith) in (
        subst (IsSplitInto relay at low high N (plan_of slots)) (sym t.0) (turns (λ number value after. IsFirst (plan_of slots) number value × (after ≡ split number relay at (opened N low.0 low.1) (opened (N + 1) high.0 high.1))) (plan_of slots) o.1 q (first_is slots queue a e o.0 f o.1, refl)),
        t.1,
      )

  -- the same, where the table and its length are known by equations
  pub split_done : (slots kept later : List (Slot T)) (queue rest : List (ℕ × ℕ)) → IsArena slots queue → (b n next : ℕ) → IsFirstOf queue (b, n)
      → (relay at : ℕ) (low high : ℕ × T) → length slots + 2 ≤ 400001 → kept ≡ slots → next ≡ length slots
      → later ≡ set kept n (Split relay at next) ++ Open low.0 low.1 ∷ Open high.0 high.1 ∷ []
      → ((f : ℕ × ℕ → ℕ) → f (low.0, next) + f (high.0, next + 1) + sum_by f queue ≡ f (b, n) + sum_by f rest)
      → IsSplitInto relay at low high (length slots) (plan_of slots) (plan_of later) × IsArena later rest
  split_done slots kept later queue rest a b n next f relay at low high room k m l sums =
      let all = splitting slots queue rest a (b, n) f relay at low high room (subst (λ x. (f : ℕ × ℕ → ℕ) → f (low.0, x) + f (high.0, x + 1) + sum_by f queue ≡ f (b, n) + sum_by f rest) m sums) in
      rw (l, k, m) all
