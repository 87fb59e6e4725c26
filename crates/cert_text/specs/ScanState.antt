-- What a scan of a certificate's lines knows, and what a line says to it (ours).
use Rattle.std.specs.Prelude.{◌≡◌, ℕ, ⊤, Option, Some, None, List, take, codes}
use Rattle.coord_model.specs.Choice.{Settings, choice_data}
use Rattle.coord_model.specs.declared.choice.Choice.{Choice}
use Rattle.coord_model.specs.declared.weights.Weight.{Weight}
use Rattle.cert_text.specs.DueNodes.{Takes, stack}
use Rattle.cert_text.specs.Nodes.{IsNodeWith, words_with}
use Rattle.cert_text.specs.HeadScan.{IsFront}
use Rattle.cert_text.specs.Scanning.{State}
use Rattle.cert_text.specs.declared.kinds.CertItem.{CertItem}
use Rattle.cert_text.specs.declared.kinds.CertItem.TheVariants.{Head, Node, End}
use Rattle.cert_text.specs.declared.kinds.CertKind.{CertKind}
use Rattle.cert_text.specs.declared.kinds.CertKind.TheVariants as kind
use Rattle.cert_text.specs.declared.scan.CertScan.{CertScan}

-- the choice, if there is a cost
abbrev pub settings_with : Option ℕ → Choice → Option Settings
settings_with None choice = None
settings_with (Some cost) choice = Some (choice_data choice)

-- the state of a scan
abbrev pub state_of : CertScan → State
state_of scan = record {
  due = scan.due;
  head = scan.head;
  settings = settings_with scan.head.cost scan.choice;
  dues = stack scan.dues.depths.items scan.dues.pending;
  taken = scan.dues.taken;
}

-- the weights of the last node
abbrev pub weights_of : CertScan → List Weight
weights_of scan = take scan.count scan.pairs.items

-- What a line is. A node is within its limits with its weights, and is taken at the first due node.
abbrev pub IsItem : CertItem → State → State → List Weight → List ℕ → Type 0
IsItem Head before after weights line = IsFront before.due
IsItem (Node node) before after weights line =
    (before.due ≡ kind.Node) × IsNodeWith node weights × (line ≡ words_with node weights) × Takes node before.dues before.taken after.dues after.taken
IsItem End before after weights line = (before.due ≡ kind.End) × (after.due ≡ kind.After)

-- the first node is due and none is taken, or it is a line before the nodes
abbrev pub IsBeforeNodes : CertKind → State → Type 0
IsBeforeNodes kind.Node s = s.taken ≡ 0
IsBeforeNodes kind.End s = ⊥
IsBeforeNodes kind.After s = ⊥
IsBeforeNodes _ s = ⊤

-- a node or the last line is due
abbrev pub IsNodeKind : CertKind → Type 0
IsNodeKind kind.Node = ⊤
IsNodeKind kind.End = ⊤
IsNodeKind _ = ⊥

-- the head and the settings are as they were
abbrev pub KeepsHead : State → State → Type 0
KeepsHead before after = (after.head ≡ before.head) × (after.settings ≡ before.settings)

-- What may follow a line. A node and the last line leave the head and the settings.
abbrev pub Follows : CertItem → State → State → List ℕ → Type 0
Follows Head before after line = IsBeforeNodes after.due after
Follows (Node node) before after line = IsNodeKind after.due × KeepsHead before after
Follows End before after line = (line ≡ codes "end") × KeepsHead before after
