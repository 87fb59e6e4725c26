-- Open boxes at their places in the tree of numbered nodes, and what a turn leaves of that.
use Rattle.std.specs.Prelude.{is_some}
use Rattle.std.proofs.Common.{◌≡◌, ℕ, zero, suc, ◌+◌, ◌<◌, ◌≤◌, inl, inr, true, false, Option, Some, None, List, [], ◌∷◌, length, arith, refl, sym, ap, ◌∙◌, subst}
use Rattle.std.proofs.lemmas.Bool.{cases_lt, true≢false, or_from, or_left, or_right}
use Rattle.std.proofs.lemmas.List.{length-append}
use Rattle.coord_model.specs.Tree.{Tree}
use Rattle.margin_rows.specs.Box.{Box}
use Rattle.margin_rows.specs.Case.{Case}
use Rattle.cert_tree.specs.Endings.{has_open_leaf}
use Rattle.search_tree.specs.Harvest.{leaf_tree, tree_of}
use Rattle.search_tree.specs.Plan.{HasOpen, Plan, closed, entries, open_here, open_high, open_low, opened, split as split_plan}
use Rattle.search_tree.specs.Steps.{Turns, turn_here, turn_high, turn_low}
use Rattle.search_tree.specs.declared.leaf.Leaf.{Leaf}
use Rattle.search_tree.specs.declared.leaf.Leaf.TheVariants.{Bound, Empty, Hair, Void}
use Rattle.step_rules.specs.OpenBoxes.{IsOpenBox}
use Rattle.step_rules.specs.Usable.{LeafWeights, leaf_weights, open_with}
use Rattle.step_rules.specs.declared.open_box.OpenBox.{OpenBox}
use Rattle.branch_bound.specs.Machine.{here, in_high, in_low}
use Rattle.branch_bound.specs.Machine as machine
use Rattle.std.specs.List.{All}
use Rattle.std.specs.Option.{IfSome}
use Rattle.search_tree.specs.Plan.{plan_of}
use Rattle.search_tree.specs.Steps.{IsFirst}
use Rattle.search_tree.specs.declared.slot.Slot.{Slot}
use Rattle.search_tree.proofs.Firsts.{first_once, lead_first, open_within, turn_all, turn_map}
use Rattle.step_rules.specs.Handlings.{LeavesHalves, tree_of as handling_tree}
use Rattle.step_rules.specs.Issuing.{IsPriced, latest, settings_of}
use Rattle.step_rules.specs.Rules.{Handled}
use Rattle.step_rules.specs.declared.handling.Handling.{Handling}
use Rattle.step_rules.specs.declared.handling.Handling.TheVariants as handling
use Rattle.step_rules.specs.declared.issued.Issued.{Issued}
use Rattle.branch_bound.specs.Advancing.{IsAdvance}
use Rattle.branch_bound.specs.Leading.{IsTurnedInto, is_closed, is_split}
use Rattle.branch_bound.specs.Searching.{Placed}
use Rattle.branch_bound.specs.Taking.{Takes, becomes}

-- an open box as an open leaf
abbrev pub leaf_of : OpenBox → Tree
leaf_of value = open_with (leaf_weights value.weights)

-- a closed leaf is not open
closed_leaf : (leaf : Leaf) → has_open_leaf (leaf_tree leaf) ≡ false
closed_leaf Empty = refl
closed_leaf (Void rows) = refl
closed_leaf (Bound weights) = refl
closed_leaf (Hair row) = refl

-- an open leaf stands exactly if the plan lists one
pub none_open : (plan : Plan OpenBox) → entries plan ≡ [] → has_open_leaf (tree_of leaf_of plan) ≡ false
none_open (split_plan n relay at l h) none =
    let long = length-append (entries l) (entries h) in
    let count : length (entries l) + length (entries h) ≡ 0 = sym long ∙ ap (λ (es : List (ℕ × ℕ)). length es) none in
    or_from _ _ (none_open l (nothing (entries l) (omega (arith, count)))) (none_open h (nothing (entries h) (omega (arith, count))))
  where
    nothing : (es : List (ℕ × ℕ)) → length es ≡ 0 → es ≡ []
    nothing [] none = refl
    nothing (e ∷ es) none = absurd (omega (arith, none))
none_open (closed n leaf) none = closed_leaf leaf
none_open (opened n b v) none = absurd (omega (arith, ap (λ (es : List (ℕ × ℕ)). length es) none))

pub some_open : (plan : Plan OpenBox) → 0 < length (entries plan) → has_open_leaf (tree_of leaf_of plan) ≡ true
some_open (split_plan n relay at l h) some = elim (cases_lt 0 (length (entries l))) [
  | inl there ↦ or_left _ _ (some_open l there)
  | inr none ↦ or_right _ _ (some_open h (let long = length-append (entries l) (entries h) in omega (arith, long, none, some)))
]
some_open (closed n leaf) some = absurd (omega (arith, some))
some_open (opened n b v) some = refl

-- an open box of a plan is an open box
pub placed_open : (case : Case) (box : Box) (plan : Plan OpenBox) {n b : ℕ} {v : OpenBox} → Placed case box plan → HasOpen n b v plan → IsOpenBox case v
placed_open case box (split_plan m relay at l h) (low, high, halves, all_low, all_high) (open_low there) = placed_open case low l all_low there
placed_open case box (split_plan m relay at l h) (low, high, halves, all_low, all_high) (open_high there) = placed_open case high h all_high there
placed_open case box (closed m leaf) placed there = elim there [ ]
placed_open case box (opened m b v) (ranges, bound, is) open_here = is

-- and has the bound of its place
pub placed_bound : (case : Case) (box : Box) (plan : Plan OpenBox) {n b : ℕ} {v : OpenBox} → Placed case box plan → HasOpen n b v plan → v.bound ≡ b
placed_bound case box (split_plan m relay at l h) (low, high, halves, all_low, all_high) (open_low there) = placed_bound case low l all_low there
placed_bound case box (split_plan m relay at l h) (low, high, halves, all_low, all_high) (open_high there) = placed_bound case high h all_high there
placed_bound case box (closed m leaf) placed there = elim there [ ]
placed_bound case box (opened m b v) (ranges, bound, is) open_here = bound

-- the bounds of the open boxes that a box leaves are not below its own
not_below : (case : Case) (value : OpenBox) (least : ℕ) (done : Handling) (number next : ℕ) → least ≤ value.bound → LeavesHalves case value done → All (λ e. least ≤ e.0) (entries (becomes done number next))
not_below case value least (handling.Split relay at low high) number next less halves zero d below = omega (arith, less, halves.low_not_below)
not_below case value least (handling.Split relay at low high) number next less halves (suc zero) d below = omega (arith, less, halves.high_not_below)
not_below case value least (handling.Split relay at low high) number next less halves (suc (suc k)) d below = absurd (omega (arith, below))
not_below case value least handling.Empty number next less halves k d below = absurd (omega (arith, below))
not_below case value least (handling.Void rows) number next less halves k d below = absurd (omega (arith, below))
not_below case value least (handling.Bound weights) number next less halves k d below = absurd (omega (arith, below))
not_below case value least (handling.Hair row) number next less halves k d below = absurd (omega (arith, below))

-- what a turn of the plan is in the machine
pub record IsTurned (case : Case) (R : Box → LeafWeights → Tree → Type 0) (box : Box) (plan later : Plan OpenBox) : Type 0 where
  pub turned : machine.Turns case R box (tree_of leaf_of plan) (tree_of leaf_of later)
  pub placed : Placed case box later

pub turned_plan : (case : Case) (Q : ℕ → OpenBox → Plan OpenBox → Type 0) (R : Box → LeafWeights → Tree → Type 0)
    → ((n : ℕ) (v : OpenBox) (later : Plan OpenBox) → Q n v later → R v.ranges (leaf_weights v.weights) (tree_of leaf_of later) × Placed case v.ranges later)
    → (box : Box) (plan later : Plan OpenBox) → Turns Q plan later → Placed case box plan → IsTurned case R box plan later
turned_plan case Q R f box plan later (turn_low {number = n} {relay = relay} {at = at} {l = l} {h = h} {after = after} turns) (low, high, halves, all_low, all_high) =
    let t = turned_plan case Q R f low l after turns all_low in
    record { turned = in_low halves t.turned; placed = (low, high, halves, t.placed, all_high) }
turned_plan case Q R f box plan later (turn_high {number = n} {relay = relay} {at = at} {l = l} {h = h} {after = after} turns) (low, high, halves, all_low, all_high) =
    let t = turned_plan case Q R f high h after turns all_high in
    record { turned = in_high halves t.turned; placed = (low, high, halves, all_low, t.placed) }
turned_plan case Q R f box plan later (turn_here {number = n} {bound = b} {value = v} {after = after} q) (ranges, bound, is) =
    let both = f n v after q in
    record {
      turned = subst (λ (x : Box). machine.Turns case R x (leaf_of v) (tree_of leaf_of after)) ranges (here both.0);
      placed = subst (λ (x : Box). Placed case x after) ranges both.1;
    }

-- an open box that was handled, in the place of its leaf
taken : (case : Case) (gap : ℕ) (issued later : Option Issued) (value : OpenBox) (done : Handling) (number next : ℕ)
    → Handled case gap value.ranges (leaf_weights value.weights) (settings_of issued) (settings_of later) (handling_tree done) → LeavesHalves case value done
    → Handled case gap value.ranges (leaf_weights value.weights) (settings_of issued) (settings_of later) (tree_of leaf_of (becomes done number next)) × Placed case value.ranges (becomes done number next)
taken case gap issued later value (handling.Split relay at low high) number next handled halves = (
  handled,
  (
    low.ranges,
    high.ranges,
    record { tight = halves.tight; is_tight = halves.tightens; halves = halves.halves },
    (refl, refl, halves.low_open),
    (refl, refl, halves.high_open),
  ),
)
taken case gap issued later value handling.Empty number next handled halves = (handled, tt)
taken case gap issued later value (handling.Void rows) number next handled halves = (handled, tt)
taken case gap issued later value (handling.Bound weights) number next handled halves = (handled, tt)
taken case gap issued later value (handling.Hair row) number next handled halves = (handled, tt)

-- what became of a leaf is closed, or split over halves that are made after all open leaves
turned_into : (slots : List (Slot OpenBox)) (done : Handling) (number : ℕ) → IsTurnedInto (plan_of slots) (becomes done number (length slots))
turned_into slots (handling.Split relay at low high) number = is_split (open_within slots) (omega arith)
turned_into slots handling.Empty number = is_closed
turned_into slots (handling.Void rows) number = is_closed
turned_into slots (handling.Bound weights) number = is_closed
turned_into slots (handling.Hair row) number = is_closed

-- the open box that comes first was handled
pub advanced : (case : Case) (gap : ℕ) (issued later : Option Issued) (done : Handling) (number : ℕ) (value : OpenBox) (slots more : List (Slot OpenBox))
    → IsFirst (plan_of slots) number value → Handled case gap value.ranges (leaf_weights value.weights) (settings_of issued) (settings_of later) (handling_tree done) → LeavesHalves case value done
    → IfSome later (IsPriced case) → length more ≤ length slots + 2 → Takes done (length slots) (plan_of slots) (plan_of more) → IsAdvance case gap issued later slots more
advanced case gap issued later done number value slots more first handled halves priced count takes = record {
  first = turn_map Q (λ n v after. IsFirst (plan_of slots) n v × IsTurnedInto (plan_of slots) after)
      (λ n v after q. (q.0, subst (λ (p : Plan OpenBox). IsTurnedInto (plan_of slots) p) (sym q.1) (turned_into slots done n))) takes;
  turned = λ box placed. (whole box placed).turned;
  placed = λ box placed. (whole box placed).placed;
  leads = λ box least placed lead.
      let same = lead_first (plan_of slots) least number value lead first in
      let bound = placed_bound case box (plan_of slots) placed first.open_leaf in
      turn_all (λ e. least ≤ e.0) Q
      (λ n v after q. subst (λ (p : Plan OpenBox). All (λ e. least ≤ e.0) (entries p)) (sym q.1) (not_below case value least done n (length slots) (omega (arith, same, bound)) halves)) takes lead.1;
  priced = priced;
  count = count;
}
  where
    Q : ℕ → OpenBox → Plan OpenBox → Type 0
    Q n v after = IsFirst (plan_of slots) n v × (after ≡ becomes done n (length slots))

    R : Box → LeafWeights → Tree → Type 0
    R box own tree = Handled case gap box own (settings_of issued) (settings_of later) tree

    one : (n : ℕ) (v : OpenBox) (after : Plan OpenBox) → Q n v after → R v.ranges (leaf_weights v.weights) (tree_of leaf_of after) × Placed case v.ranges after
    one n v after q =
        let same = first_once (plan_of slots) number n value v first q.0 in
        let P : OpenBox → Plan OpenBox → Type 0 = λ w p. R w.ranges (leaf_weights w.weights) (tree_of leaf_of p) × Placed case w.ranges p in
        rw (q.1, same.1) (taken case gap issued later value done n (length slots) handled halves)

    whole : (box : Box) → Placed case box (plan_of slots) → IsTurned case R box (plan_of slots) (plan_of more)
    whole box placed = turned_plan case Q R one box (plan_of slots) (plan_of more) takes placed

-- the settings that are issued after a step are the new ones if there are some, else those of before
pub latest_some : (before new : Option Issued) → is_some new ≡ true → latest before new ≡ settings_of new
latest_some before None some = absurd (true≢false (sym some))
latest_some before (Some new) some = refl

pub latest_none : (before new : Option Issued) → is_some new ≡ false → latest before new ≡ settings_of before
latest_none before None none = refl
latest_none before (Some new) none = absurd (true≢false none)
