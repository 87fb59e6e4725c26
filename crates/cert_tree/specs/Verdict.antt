-- What is told of a tree at a box: its bound if it holds, else the first node that is wrong.
use Rattle.std.specs.Prelude.{◌≡◌, ℕ, ◌⊎◌, ⊤, Option, Result, Ok, Err}
use Rattle.coord_model.specs.Tree.{Tree}
use Rattle.margin_rows.specs.Box.{Box, FitsBox}
use Rattle.margin_rows.specs.Case.{Case, FitsCase}
use Rattle.cert_tree.specs.Holding.{Fails, Holds}
use Rattle.cert_tree.specs.declared.holds.TreeRefusal.{TreeRefusal}
use Rattle.cert_tree.specs.declared.holds.TreeRefusal.TheVariants.{Fault, NoMemory}
use Rattle.cert_tree.specs.declared.kind.NodeKind.{NodeKind}

-- the answer is so of the tree
abbrev pub IsTold : Case → Box → Tree → Result (Option ℕ) TreeRefusal → Type 0
IsTold case box tree (Ok bound) = Holds case box tree bound
IsTold case box tree (Err (Fault number kind)) = Fails case box tree number kind
IsTold case box tree (Err NoMemory) = ⊤

-- the answer is this bound, unless memory ran out
abbrev pub GivesBound : Option ℕ → Result (Option ℕ) TreeRefusal → Type 0
GivesBound bound (Ok given) = given ≡ bound
GivesBound bound (Err (Fault number kind)) = ⊥
GivesBound bound (Err NoMemory) = ⊤

-- the answer is this fault, unless memory ran out
abbrev pub GivesFault : ℕ → NodeKind → Result (Option ℕ) TreeRefusal → Type 0
GivesFault number kind (Ok given) = ⊥
GivesFault number kind (Err (Fault n k)) = (n ≡ number) × (k ≡ kind)
GivesFault number kind (Err NoMemory) = ⊤

-- the tree holds at the box with some bound, or fails there at some node
abbrev pub IsDecided : Case → Box → Tree → Type 0
IsDecided case box tree =
    ((bound : Option ℕ) × Holds case box tree bound)
    ⊎ ((number : ℕ) × (kind : NodeKind) × Fails case box tree number kind)

-- at each box that fits a case within the limits
abbrev pub HoldsOrFails : Type 0
HoldsOrFails =
    (case : Case) (box : Box) (tree : Tree) → FitsCase case → FitsBox case box
    → IsDecided case box tree

-- and at no box both
abbrev pub NeverBoth : Type 0
NeverBoth =
    (case : Case) (box : Box) (tree : Tree) (bound : Option ℕ) (number : ℕ) (kind : NodeKind)
    → Holds case box tree bound → ¬ (Fails case box tree number kind)
