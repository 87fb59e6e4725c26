-- How large the tree of a search can be.
use Rattle.std.specs.Prelude.{slice_get}
use Rattle.std.specs.List.{sum_by}
use Rattle.std.specs.Option.{IfSome}
use Rattle.std.proofs.Common.{◌≡◌, ℕ, zero, suc, ◌+◌, ◌-◌, ◌*◌, ◌<◌, ◌≤◌, List, [], ◌∷◌, length, max, set, Some, true, arith, refl, sym, ap, ◌∙◌, inl, inr}
use Rattle.std.proofs.Math.Nat.{mul-le-mul_left, mul-le-mul_right}
use Rattle.std.proofs.lemmas.Bool.{or_cases, true≢false}
use Rattle.std.proofs.lemmas.List.{length-append}
use Rattle.std.proofs.lemmas.List.Sums.{sum_by-cons}
use Rattle.std.proofs.lemmas.Option.{get_or_from_slice_get, slice_get_within}
use Rattle.margin_rows.proofs.Halved.{halves_are}
use Rattle.coord_model.specs.Tree.{Tree, bound, depth, empty, hair, nodes_of, open_leaf, split, void}
use Rattle.margin_rows.specs.Box.{Box, FitsBox, HasNoEmptySpan}
use Rattle.margin_rows.specs.Case.{Case}
use Rattle.margin_rows.specs.Halves.{AreHalves, CanSplit, HasNext, above as above_span, up_to}
use Rattle.margin_rows.specs.Within.{span_of, with_pickup}
use Rattle.margin_rows.specs.declared.span.Steps.{Steps}
use Rattle.margin_rows.proofs.Places.{some_and}
use Rattle.box_range.proofs.Order.{drops_within}
use Rattle.cert_tree.specs.Endings.{boxes, has_open_leaf}
use Rattle.cert_tree.specs.NodeRules.{IsRight}
use Rattle.cert_tree.proofs.TreeLaws.{can_split, halves_fit}
use Rattle.branch_bound.specs.Choices.{choices, product}
use Rattle.branch_bound.specs.Facts.{Every}

-- the number of nodes of a tree
abbrev pub count : Tree → ℕ
count (split relay at low high) = suc (count low + count high)
count empty = 1
count (void weights) = 1
count (bound lambda weights) = 1
count (hair row) = 1
count (open_leaf lambda weights) = 1

-- what stands at a place of a list
first_is : (s span : Steps) (spans : List Steps) → slice_get (s ∷ spans) zero ≡ Some span → s ≡ span
first_is s span spans found = get_or_from_slice_get (s ∷ spans) zero span span found

nothing : (r : ℕ) (span : Steps) → slice_get {X = Steps} [] r ≡ Some span → ⊥
nothing r span found = let below = slice_get_within [] r span found in omega (arith, below)

-- a sum over spans, with another one for a relay
sum_set : (f : Steps → ℕ) (spans : List Steps) (r : ℕ) (span new : Steps) → slice_get spans r ≡ Some span → sum_by f (set spans r new) + f span ≡ sum_by f spans + f new
sum_set f [] r span new found = absurd (nothing r span found)
sum_set f (s ∷ spans) zero span new found = rw (sum_by-cons f new spans, sum_by-cons f s spans, ap f (first_is s span spans found)) (omega arith)
sum_set f (s ∷ spans) (suc r) span new found = let more = sum_set f spans r span new found in rw (sum_by-cons f s (set spans r new), sum_by-cons f s spans) (omega (arith, more))

-- a sum over spans within others is no more
sum_within : (inner outer : List Steps) → length inner ≡ length outer → ((i : ℕ) → i < length outer → (span_of inner i).past - (span_of inner i).low ≤ (span_of outer i).past - (span_of outer i).low)
    → sum_by (λ (span : Steps). span.past - span.low) inner ≤ sum_by (λ (span : Steps). span.past - span.low) outer
sum_within [] [] same each = omega arith
sum_within [] (t ∷ outer) same each = absurd (omega (arith, same))
sum_within (s ∷ inner) [] same each = absurd (omega (arith, same))
sum_within (s ∷ inner) (t ∷ outer) same each =
    let here = each zero (omega arith) in
    let others = sum_within inner outer (omega (arith, same)) (λ i below. each (suc i) (omega (arith, below))) in
    rw (sum_by-cons (λ (span : Steps). span.past - span.low) s inner, sum_by-cons (λ (span : Steps). span.past - span.low) t outer) (omega (arith, here, others))

-- a product, shared out between two spans for a relay
product_set : (spans : List Steps) (r : ℕ) (span a b : Steps) → slice_get spans r ≡ Some span → (a.past - a.low) + (b.past - b.low) ≡ span.past - span.low
    → product (set spans r a) + product (set spans r b) ≡ product spans
product_set [] r span a b found share = absurd (nothing r span found)
product_set (s ∷ spans) zero span a b found share = plain (a.past - a.low) (b.past - b.low) (s.past - s.low) (product spans) (share ∙ sym (ap (λ (x : Steps). x.past - x.low) (first_is s span spans found)))
  where
    plain : (x y z p : ℕ) → x + y ≡ z → x * p + y * p ≡ z * p
    plain x y z p is = rw (sym is) (omega arith)
product_set (s ∷ spans) (suc r) span a b found share = plain (s.past - s.low) (product (set spans r a)) (product (set spans r b)) (product spans) (product_set spans r span a b found share)
  where
    plain : (w x y z : ℕ) → x + y ≡ z → w * x + w * y ≡ w * z
    plain w x y z is = rw (sym is) (omega arith)

-- spans within others have no more steps
product_within : (inner outer : List Steps) → length inner ≡ length outer → ((i : ℕ) → i < length outer → (span_of inner i).past - (span_of inner i).low ≤ (span_of outer i).past - (span_of outer i).low)
    → product inner ≤ product outer
product_within [] [] same each = omega arith
product_within [] (t ∷ outer) same each = absurd (omega (arith, same))
product_within (s ∷ inner) [] same each = absurd (omega (arith, same))
product_within (s ∷ inner) (t ∷ outer) same each =
    let here = each zero (omega arith) in
    let others = product_within inner outer (omega (arith, same)) (λ i below. each (suc i) (omega (arith, below))) in
    plain (s.past - s.low) (t.past - t.low) (product inner) (product outer) here others
  where
    plain : (a b x y : ℕ) → a ≤ b → x ≤ y → a * x ≤ b * y
    plain a b x y p q = let left = mul-le-mul_left a q in let right = mul-le-mul_right y p in omega (arith, left, right)

-- a box with a step in each span has a pickup choice
some_choice : (spans : List Steps) → ((i : ℕ) → IfSome (slice_get spans i) (λ span. span.low < span.past)) → 1 ≤ product spans
some_choice [] some = omega arith
some_choice (s ∷ spans) some =
    let here : s.low < s.past = some zero in
    let others = some_choice spans (λ i. some (suc i)) in
    plain (s.past - s.low) (product spans) (omega (arith, here)) others
  where
    plain : (a x : ℕ) → 1 ≤ a → 1 ≤ x → 1 ≤ a * x
    plain a x p q = let more = mul-le-mul_left a q in omega (arith, more, p)

-- the halves of a box share out its choices
halves_choices : (tight low high : Box) (relay at : ℕ) → CanSplit tight relay at → AreHalves tight relay at low high → choices low + choices high ≡ choices tight
halves_choices tight low high relay at can halves =
    let found = some_and (slice_get tight.pickup relay) (λ span. HasNext span at) can in
    let is_low : low ≡ with_pickup tight relay (up_to found.0 at) = rw found.1 at halves.low in
    let is_high : high ≡ with_pickup tight relay (above_span found.0 at) = rw found.1 at halves.high in
    rw (is_low, is_high) (product_set tight.pickup relay found.0 (up_to found.0 at) (above_span found.0 at) found.1 (omega (arith, found.2.from, found.2.next)))

-- a tree at a box with a step in each span has at most twice the pickup choices, less one, of nodes
pub nodes_few : (case : Case) (box : Box) (tree : Tree) → FitsBox case box → HasNoEmptySpan box → Every case (IsRight case) box tree → count tree + 1 ≤ 2 * choices box
nodes_few case box (split relay at below above) fits steps (low, high, node, halves, all_low, all_high) =
    let can = can_split case box halves.tight relay at below above node halves.is_tight in
    let fit = halves_fit case box relay at below above low high fits node halves in
    let are = halves_are halves.tight low high relay at can halves.halves in
    let tight = halves.is_tight in
    let within = drops_within case box halves.tight tight.led in
    let less = product_within halves.tight.pickup box.pickup within.pickup.count (λ i below. omega (arith, (within.pickup.each i).low, (within.pickup.each i).past)) in
    let a = nodes_few case low below fit.0 (are.1.0.steps tight.no_more.steps) all_low in
    let b = nodes_few case high above fit.1 (are.1.1.steps tight.no_more.steps) all_high in
    omega (arith, a, b, less, halves_choices halves.tight low high relay at can halves.halves)
nodes_few case box empty fits steps node = let some = some_choice box.pickup steps.pickup in omega (arith, some)
nodes_few case box (void weights) fits steps node = let some = some_choice box.pickup steps.pickup in omega (arith, some)
nodes_few case box (bound lambda weights) fits steps node = let some = some_choice box.pickup steps.pickup in omega (arith, some)
nodes_few case box (hair row) fits steps node = let some = some_choice box.pickup steps.pickup in omega (arith, some)
nodes_few case box (open_leaf lambda weights) fits steps node = let some = some_choice box.pickup steps.pickup in omega (arith, some)

-- the boxes are nodes; where an open leaf stands, not all nodes are boxes
pub boxes_count : (tree : Tree) → boxes tree ≤ count tree
boxes_count (split relay at low high) = omega (arith, boxes_count low, boxes_count high)
boxes_count empty = omega arith
boxes_count (void weights) = omega arith
boxes_count (bound lambda weights) = omega arith
boxes_count (hair row) = omega arith
boxes_count (open_leaf lambda weights) = omega arith

pub boxes_fewer : (tree : Tree) → has_open_leaf tree ≡ true → boxes tree + 1 ≤ count tree
boxes_fewer (split relay at low high) stands = elim (or_cases (has_open_leaf low) (has_open_leaf high) stands) [
  | inl there ↦ omega (arith, boxes_fewer low there, boxes_count high)
  | inr there ↦ omega (arith, boxes_count low, boxes_fewer high there)
]
boxes_fewer empty stands = absurd (true≢false (sym stands))
boxes_fewer (void weights) stands = absurd (true≢false (sym stands))
boxes_fewer (bound lambda weights) stands = absurd (true≢false (sym stands))
boxes_fewer (hair row) stands = absurd (true≢false (sym stands))
boxes_fewer (open_leaf lambda weights) stands = omega arith

-- a tree has at most twice its boxes, and one more, of nodes
pub nodes_by_boxes : (tree : Tree) → count tree ≤ 2 * boxes tree + 1
nodes_by_boxes (split relay at low high) = omega (arith, nodes_by_boxes low, nodes_by_boxes high)
nodes_by_boxes empty = omega arith
nodes_by_boxes (void weights) = omega arith
nodes_by_boxes (bound lambda weights) = omega arith
nodes_by_boxes (hair row) = omega arith
nodes_by_boxes (open_leaf lambda weights) = omega arith

-- the nodes in pre-order are as many
pub nodes_count : (tree : Tree) → length (nodes_of tree) ≡ count tree
nodes_count (split relay at low high) = ap suc (length-append (nodes_of low) (nodes_of high) ∙ (let a = nodes_count low in let b = nodes_count high in omega (arith, a, b)))
nodes_count empty = refl
nodes_count (void weights) = refl
nodes_count (bound lambda weights) = refl
nodes_count (hair row) = refl
nodes_count (open_leaf lambda weights) = refl

-- the steps in the pickup spans of a box
abbrev pub pickup_steps : Box → ℕ
pickup_steps box = sum_by (λ (span : Steps). span.past - span.low) box.pickup

plain : (a b low high s t tight whole from at past : ℕ) → a ≤ low → b ≤ high → low ≡ s → high ≡ t → s + (past - from) ≡ tight + (at + 1 - from) → t + (past - from) ≡ tight + (past - (at + 1))
    → tight ≤ whole → from ≤ at → at + 1 < past → suc (max a b) ≤ whole
plain a b low high s t tight whole from at past x y p q u v less f n = omega (arith, x, y, p, q, u, v, less, f, n)

-- each split of a path has a step fewer
pub depth_few : (case : Case) (box : Box) (tree : Tree) → FitsBox case box → Every case (IsRight case) box tree → depth tree ≤ pickup_steps box
depth_few case box (split relay at below above) fits (low, high, node, halves, all_low, all_high) =
    let can = can_split case box halves.tight relay at below above node halves.is_tight in
    let fit = halves_fit case box relay at below above low high fits node halves in
    let within = drops_within case box halves.tight halves.is_tight.led in
    let a = depth_few case low below fit.0 all_low in
    let b = depth_few case high above fit.1 all_high in
    let w : Steps → ℕ = λ (span : Steps). span.past - span.low in
    let found = some_and (slice_get halves.tight.pickup relay) (λ span. HasNext span at) can in
    let is_low : low ≡ with_pickup halves.tight relay (up_to found.0 at) = rw found.1 at halves.halves.low in
    let is_high : high ≡ with_pickup halves.tight relay (above_span found.0 at) = rw found.1 at halves.halves.high in
    let x = sum_set w halves.tight.pickup relay found.0 (up_to found.0 at) found.1 in
    let y = sum_set w halves.tight.pickup relay found.0 (above_span found.0 at) found.1 in
    let less = sum_within halves.tight.pickup box.pickup within.pickup.count (λ i k. omega (arith, (within.pickup.each i).low, (within.pickup.each i).past)) in
    let p : pickup_steps low ≡ sum_by w (set halves.tight.pickup relay (up_to found.0 at)) = rw is_low refl in
    let q : pickup_steps high ≡ sum_by w (set halves.tight.pickup relay (above_span found.0 at)) = rw is_high refl in
    plain (depth below) (depth above) (pickup_steps low) (pickup_steps high) _ _ (pickup_steps halves.tight) (pickup_steps box) found.0.low at found.0.past a b p q x y less found.2.from found.2.next
depth_few case box empty fits node = omega arith
depth_few case box (void weights) fits node = omega arith
depth_few case box (bound lambda weights) fits node = omega arith
depth_few case box (hair row) fits node = omega arith
depth_few case box (open_leaf lambda weights) fits node = omega arith
