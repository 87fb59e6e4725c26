-- The nodes of a certificate, seen by a walk while its lines come in (ours).
use Rattle.std.specs.Prelude.{◌≡◌, ◌<◌, ℕ, false, Option, Some, None, List, [], ◌∷◌, ◌++◌, All, codes, length, map}
use Rattle.coord_model.specs.Tree.{Single}
use Rattle.coord_model.specs.TreeLimits.{AreLeafWeights}
use Rattle.coord_model.specs.declared.tree.NodeLine.{NodeLine}
use Rattle.coord_model.specs.declared.weights.Weight.{Weight}
use Rattle.cert_text.specs.CertText.{head_lines}
use Rattle.cert_text.specs.Nodes.{node_line}
use Rattle.cert_text.specs.declared.kinds.CertHead.{CertHead}
use Rattle.cert_text.specs.declared.kinds.CertKind.{CertKind}
use Rattle.cert_text.specs.declared.kinds.CertKind.TheVariants as kind
use Rattle.cert_tree.specs.Judgement.{HasLambda}
use Rattle.cert_tree.specs.TreeWalks.{walk_at}
use Rattle.cert_tree.specs.Walks.{Refuses, Walk, Walked}
use Rattle.margin_rows.specs.Box.{Box, FitsBox}
use Rattle.margin_rows.specs.Case.{Case}
use Rattle.cert_check.specs.declared.nodes.NodeFault.{NodeFault}

-- a walk can take the node
pub record CanTake (case : Case) (walk : Walk) (line : NodeLine) (weights : List Weight) : Type 0 where
  pub due : 0 < length walk.due
  pub leaf : AreLeafWeights weights
  pub lambda : HasLambda line
  pub few : walk.nodes < 400001

-- a walk goes on, over boxes of the case
pub record IsGoing (case : Case) (walk : Walk) : Type 0 where
  pub going : walk.refused ≡ false
  pub fits : All (FitsBox case) walk.due

-- the walk from the box took the nodes, or the fault is the first of them
abbrev pub Saw : Case → Box → Walk → Option NodeFault → List Single → Type 0
Saw case box walk None nodes = Walked case (walk_at box) nodes walk × IsGoing case walk
Saw case box walk (Some fault) nodes = Refuses case (walk_at box) nodes fault.number fault.kind

-- the lines are those of a head and of settings, and then those of the nodes
pub record AreLinesOf (nodes : List Single) (lines : List (List ℕ)) : Type 0 where
  pub head : CertHead
  pub settings : List ℕ
  pub parts : lines ≡ head_lines head ++ settings ∷ map node_line nodes

-- the lines are those, and the last line
pub record AreWithEnd (nodes : List Single) (lines : List (List ℕ)) : Type 0 where
  pub before : List (List ℕ)
  pub are : AreLinesOf nodes before
  pub parts : lines ≡ before ++ codes "end" ∷ []

-- the nodes that the lines so far have, if a line of this kind is due
abbrev pub AreNodes : CertKind → List Single → List (List ℕ) → Type 0
AreNodes kind.Node nodes lines = AreLinesOf nodes lines
AreNodes kind.End nodes lines = AreLinesOf nodes lines
AreNodes kind.After nodes lines = AreWithEnd nodes lines
AreNodes _ nodes lines = nodes ≡ []
