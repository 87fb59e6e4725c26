-- Which nodes are due in a tree that is read in pre-order (ours).
use Rattle.std.specs.Prelude.{◌≡◌, ℕ, zero, suc, ◌+◌, ◌≤◌, ⊤, List, [], ◌∷◌, length, get_or}
use Rattle.coord_model.specs.Tree.{Single}
use Rattle.coord_model.specs.declared.tree.NodeLine.{NodeLine}
use Rattle.coord_model.specs.declared.tree.NodeLine.TheVariants.{Split, Empty, Void, Bound, Hair, OpenLeaf}

-- a node may stand at a due node with this many splits above it: a split has at most 3,071
abbrev pub MayStand : NodeLine → ℕ → Type 0
MayStand (Split relay at) d = suc d ≤ 3072
MayStand Empty d = ⊤
MayStand Void d = ⊤
MayStand (Bound lambda) d = ⊤
MayStand (Hair row) d = ⊤
MayStand (OpenLeaf lambda) d = ⊤

-- the due nodes once a node is read at the first of them: the halves of a split come first
abbrev pub due_after : NodeLine → ℕ → List ℕ → List ℕ
due_after (Split relay at) d dues = suc d ∷ suc d ∷ dues
due_after Empty d dues = dues
due_after Void d dues = dues
due_after (Bound lambda) d dues = dues
due_after (Hair row) d dues = dues
due_after (OpenLeaf lambda) d dues = dues

-- the nodes lead from some due nodes to others; of each due node the splits above it are given, the next one first
abbrev pub Leads : List ℕ → List Single → List ℕ → Type 0
Leads dues [] later = dues ≡ later
Leads [] (node ∷ nodes) later = ⊥
Leads (d ∷ dues) (node ∷ nodes) later = MayStand node.line d × Leads (due_after node.line d dues) nodes later

-- the first of these on top, for what stands in an array from its start
abbrev pub stack : List ℕ → ℕ → List ℕ
stack depths zero = []
stack depths (suc n) = get_or depths n 0 ∷ stack depths n

-- the node is taken at the first due node
pub record Takes (node : NodeLine) (before : List ℕ) (taken : ℕ) (after : List ℕ) (later : ℕ) : Type 0 where
  pub above : ℕ
  pub others : List ℕ
  pub first : before ≡ above ∷ others
  pub may : MayStand node above
  pub dues : after ≡ due_after node above others
  pub counted : later ≡ taken + 1
  pub room : later + length after ≤ 400001
