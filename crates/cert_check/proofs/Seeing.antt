-- A walk beside a scan: as many boxes are due as nodes, and each node that the scan takes is one that the walk can take.
use Rattle.std.proofs.Common.{◌≡◌, ℕ, suc, ◌+◌, inl, List, [], ◌∷◌, ◌++◌, length, All, None, refl, sym, ap, ◌∙◌, subst, arith}
use Rattle.std.specs.List.{AllByRecursion}
use Rattle.coord_model.specs.Tree.{Single}
use Rattle.coord_model.specs.TreeLimits.{AreLeafWeights}
use Rattle.coord_model.specs.declared.tree.NodeLine.{NodeLine}
use Rattle.coord_model.specs.declared.tree.NodeLine.TheVariants.{Split, Empty, Void, Bound, Hair, OpenLeaf}
use Rattle.coord_model.specs.declared.weights.Weight.{Weight}
use Rattle.cert_text.specs.DueNodes.{Leads, Takes, due_after}
use Rattle.cert_text.specs.Nodes.{IsNode, IsNodeWith}
use Rattle.cert_text.specs.Scanning.{NodesTo, State}
use Rattle.cert_tree.specs.Judgement.{HasLambda}
use Rattle.cert_tree.specs.NodeFaults.{IsFirstWrong}
use Rattle.cert_tree.specs.TreeWalks.{walk_at}
use Rattle.cert_tree.specs.Walks.{AreDueAfter, AtFirst, Refuses, Takes as WalkTakes, Walk, Walked}
use Rattle.cert_tree.specs.declared.kind.NodeKind.{NodeKind}
use Rattle.cert_tree.proofs.WalkLaws.{refused_after, walked_join, walked_one}
use Rattle.margin_rows.specs.Box.{Box, FitsBox}
use Rattle.margin_rows.specs.Case.{Case}
use Rattle.cert_check.specs.Seen.{AreLinesOf, CanTake, Saw}
use Rattle.cert_check.proofs.NodeLines.{lines_of, same_nodes, same_tail}

-- as many boxes are due after a node as nodes
as_many : (case : Case) (box : Box) (others later : List Box) (line : NodeLine) (d : ℕ) (dues : List ℕ) → AreDueAfter case box others line later → length others ≡ length dues → length later ≡ length (due_after line d dues)
as_many case box others later (Split relay at) d dues after same = omega (arith, ap length after.3, same)
as_many case box others later Empty d dues after same = ap length after ∙ same
as_many case box others later Void d dues after same = ap length after ∙ same
as_many case box others later (Bound lambda) d dues after same = ap length after ∙ same
as_many case box others later (Hair row) d dues after same = ap length after ∙ same
as_many case box others later (OpenLeaf lambda) d dues after same = ap length after ∙ same

-- and after all nodes
both_due : (case : Case) (nodes : List Single) (dues later : List ℕ) (before after : Walk) → Leads dues nodes later → Walked case before nodes after → length before.due ≡ length dues
    → (length after.due ≡ length later) × (after.nodes ≡ before.nodes + length nodes)
both_due case [] dues later before after leads walked same = (ap (λ (w : Walk). length w.due) walked ∙ same ∙ ap length leads, ap (λ (w : Walk). w.nodes) walked ∙ omega arith)
both_due case (node ∷ nodes) [] later before after leads walked same = absurd leads
both_due case (node ∷ nodes) (d ∷ dues) later before after leads walked same =
    let takes = walked.1 in
    let others : length takes.others ≡ length dues = omega (arith, same, ap length takes.first) in
    let rest = both_due case nodes (due_after node.line d dues) later walked.0 after leads.1 walked.2 (as_many case takes.box takes.others walked.0.due node.line d dues takes.due others) in
    (rest.0, omega (arith, rest.1, takes.nodes))

no_weights : AreLeafWeights []
no_weights = record { few = omega arith; ascending = λ k more. absurd (omega (arith, more)); some = λ k d less. absurd (omega (arith, less)); small = λ k d less. absurd (omega (arith, less)) }

-- the weights of a node are those of a leaf
leaf_weights : (line : NodeLine) (weights : List Weight) → IsNodeWith line weights → AreLeafWeights weights
leaf_weights (Split relay at) weights is = subst AreLeafWeights (sym is.2) no_weights
leaf_weights Empty weights is = subst AreLeafWeights (sym is) no_weights
leaf_weights Void weights is = is.1.leaf
leaf_weights (Bound lambda) weights is = is.1.leaf
leaf_weights (Hair row) weights is = subst AreLeafWeights (sym is.1) no_weights
leaf_weights (OpenLeaf lambda) weights is = is.1.leaf

has_lambda : (line : NodeLine) (weights : List Weight) → IsNodeWith line weights → HasLambda line
has_lambda (Split relay at) weights is = tt
has_lambda Empty weights is = tt
has_lambda Void weights is = tt
has_lambda (Bound lambda) weights is = is.0.0
has_lambda (Hair row) weights is = tt
has_lambda (OpenLeaf lambda) weights is = is.0.0

-- the nodes of the lines are those that the scan has read
pub read_nodes : (s : State) (lines : List (List ℕ)) (nodes : List Single) (to : NodesTo s lines) → AllByRecursion IsNode nodes → AreLinesOf nodes lines → nodes ≡ to.nodes
read_nodes s lines nodes to each are =
    let of = lines_of s lines to in
    same_nodes nodes to.nodes each to.each (same_tail are.head of.head are.settings of.settings _ _ (sym are.parts ∙ of.parts))

-- a node that the scan takes can be taken by the walk
pub can_take : (case : Case) (box : Box) (s : State) (lines : List (List ℕ)) (nodes : List Single) (walk : Walk) (line : NodeLine) (weights : List Weight) (after : List ℕ) (later : ℕ) → NodesTo s lines
    → AllByRecursion IsNode nodes → AreLinesOf nodes lines → Walked case (walk_at box) nodes walk → IsNodeWith line weights → Takes line s.dues s.taken after later → CanTake case walk line weights
can_take case box s lines nodes walk line weights after later to each are walked is takes =
    let same = read_nodes s lines nodes to each are in
    let leads = subst (λ (ns : List Single). Leads (0 ∷ []) ns s.dues) (sym same) to.leads in
    let both = both_due case nodes (0 ∷ []) s.dues (walk_at box) walk leads walked refl in
    let some : length s.dues ≡ suc (length takes.others) = ap length takes.first in
    let count : walk.nodes ≡ s.taken = both.1 ∙ omega (arith, ap length same, to.count) in
    record {
      due = omega (arith, both.0, some);
      leaf = leaf_weights line weights is;
      lambda = has_lambda line weights is;
      few = omega (arith, count, takes.room, takes.counted);
    }

-- what a walk has seen with a node more
pub saw_taken : (case : Case) (box : Box) (nodes : List Single) (node : Single) (before after : Walk) → Walked case (walk_at box) nodes before → WalkTakes case before node after → All (FitsBox case) after.due
    → Saw case box after None (nodes ++ node ∷ [])
saw_taken case box nodes node before after walked takes fits =
    (walked_join case nodes (node ∷ []) (walk_at box) before after walked (walked_one case before node after takes), record { going = takes.refused; fits = fits })

pub saw_wrong : (case : Case) (box : Box) (nodes : List Single) (node : Single) (before : Walk) (number : ℕ) (kind : NodeKind) → Walked case (walk_at box) nodes before
    → AtFirst (λ b. IsFirstWrong case b node kind) before.due → number ≡ before.nodes + 1 → Refuses case (walk_at box) (nodes ++ node ∷ []) number kind
saw_wrong case box nodes node before number kind walked wrong is =
    let count : before.nodes ≡ length nodes = walked_nodes nodes (walk_at box) walked ∙ omega arith in
    let e : length nodes + 1 ≡ number = omega (arith, is, count) in
    subst (λ (n : ℕ). Refuses case (walk_at box) (nodes ++ node ∷ []) n kind) e (refused_after case nodes (node ∷ []) (walk_at box) before 1 kind walked (inl (wrong, refl)))
  where
    walked_nodes : (xs : List Single) (walk : Walk) → Walked case walk xs before → before.nodes ≡ walk.nodes + length xs
    walked_nodes [] walk all = ap (λ (w : Walk). w.nodes) all ∙ omega arith
    walked_nodes (x ∷ xs) walk all = let more = walked_nodes xs all.0 all.2 in omega (arith, more, all.1.nodes)
