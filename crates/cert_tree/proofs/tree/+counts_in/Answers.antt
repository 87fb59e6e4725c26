use Rattle.std.proofs.Common.{◌≡◌, ◌+◌, ◌≤◌, ◌++◌, length, suc, ℕ, arith, ap}
use Rattle.coord_model.specs.Tree.{nodes_of, shape}
use Rattle.cert_tree.specs.Endings.{boxes}
use Rattle.cert_tree.specs.declared.counts.Counts.{Counts}
use Rattle.cert_tree.proofs.BoxCounts.{halves_few}
use Rattle.cert_tree.proofs.tree.+counts_in.Goals as goal
use Rattle.cert_tree.proofs.tree.+counts_in.Goals.{After-counts_in-in-Split}

-- the boxes of the halves, and one more, are few
few : {t : ℕ} (c : After-counts_in-in-Split t) → suc (c.counts_in.result.boxes + c.counts_in-in-Split.result.boxes) ≤ 400001
few c =
    let low : c.counts_in.result.boxes ≡ boxes (shape c.in-Split.low.value) = rw c.deref.ensures at (ap (λ (k : Counts). k.boxes) c.counts_in.ensures) in
    let high : c.counts_in-in-Split.result.boxes ≡ boxes (shape c.in-Split.high.value) = rw c.deref-in-Split.ensures at (ap (λ (k : Counts). k.boxes) c.counts_in-in-Split.ensures) in
    let nodes : suc (length (nodes_of (shape c.in-Split.low.value) ++ nodes_of (shape c.in-Split.high.value))) ≤ 400001 = rw c.in-Split.is at c.requires in
    omega (arith, low, high, halves_few (shape c.in-Split.low.value) (shape c.in-Split.high.value) 400001 nodes)

pub and-below-requires : goal.and-below-requires
and-below-requires t c = omega (arith, few c)

pub and-requires : goal.and-requires
and-requires t c =
    let below = ap (λ (k : Counts). k.boxes) c.and-below.ensures in
    let one : c.of.result.boxes ≡ 1 = ap (λ (k : Counts). k.boxes) c.of.ensures in
    omega (arith, below, one, few ((goal.at.and-requires t c).After-counts_in-in-Split))
