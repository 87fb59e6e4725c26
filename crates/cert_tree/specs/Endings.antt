-- How a search ended, as its tree, its settings and its budget tell (ours).
use Rattle.std.specs.Prelude.{ℕ, suc, ◌+◌, ◌==◌, ◌&&◌, ◌||◌, not, nat_le, nat_lt, Bool, true, false, Option, Some, None, if◌then◌else◌}
use Rattle.coord_model.specs.Tree.{Tree, split, empty, void, bound, hair, open_leaf}
use Rattle.coord_model.specs.declared.choice.Ending.{Ending}
use Rattle.coord_model.specs.declared.choice.Ending.TheVariants.{Closed, NoSettings, BudgetSpent, Hairline}
use Rattle.cert_tree.specs.declared.counts.Counts.{Counts}

-- the boxes that were worked on: the splits, and the leaves that are not open
abbrev pub boxes : Tree → ℕ
boxes (split relay at low high) = suc (boxes low + boxes high)
boxes empty = 1
boxes (void weights) = 1
boxes (bound lambda weights) = 1
boxes (hair row) = 1
boxes (open_leaf lambda weights) = 0

-- an open leaf stands
abbrev pub has_open_leaf : Tree → Bool
has_open_leaf (split relay at low high) = has_open_leaf low || has_open_leaf high
has_open_leaf empty = false
has_open_leaf (void weights) = false
has_open_leaf (bound lambda weights) = false
has_open_leaf (hair row) = false
has_open_leaf (open_leaf lambda weights) = true

-- a hair leaf stands
abbrev pub has_hair : Tree → Bool
has_hair (split relay at low high) = has_hair low || has_hair high
has_hair empty = false
has_hair (void weights) = false
has_hair (bound lambda weights) = false
has_hair (hair row) = true
has_hair (open_leaf lambda weights) = false

-- each leaf is `Empty` or `Void`
abbrev pub has_no_settings : Tree → Bool
has_no_settings (split relay at low high) = has_no_settings low && has_no_settings high
has_no_settings empty = true
has_no_settings (void weights) = true
has_no_settings (bound lambda weights) = false
has_no_settings (hair row) = false
has_no_settings (open_leaf lambda weights) = false

-- the bound and the gap come to at least the cost, if there are both
abbrev pub is_close : Option ℕ → Option ℕ → ℕ → Bool
is_close None cost gap = false
is_close (Some b) None gap = false
is_close (Some b) (Some c) gap = nat_le c (b + gap)

-- what the nodes of a tree come to, their bounds aside
abbrev pub counts_of : Tree → Counts
counts_of tree = record { boxes = boxes tree; open_leaf = has_open_leaf tree; hair = has_hair tree; no_settings = has_no_settings tree }

-- the first ending that is true of what nodes come to, if one is and the boxes are within the budget
abbrev pub ending_by : Counts → Option ℕ → Option ℕ → ℕ → ℕ → Option Ending
ending_by counts lower cost gap budget =
    if nat_lt budget counts.boxes then None
    else if counts.no_settings then Some NoSettings
    else if is_close lower cost gap then Some Closed
    else if counts.open_leaf && (counts.boxes == budget) then Some BudgetSpent
    else if counts.hair && not counts.open_leaf then Some Hairline
    else None

-- the ending of a tree with these bound, cost, gap and budget, if there is one
abbrev pub ending_of : Tree → Option ℕ → Option ℕ → ℕ → ℕ → Option Ending
ending_of tree lower cost gap budget = ending_by (counts_of tree) lower cost gap budget
