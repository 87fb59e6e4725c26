-- What a certificate says, and which values a certificate may have (ours).
use Rattle.std.specs.Prelude.{◌≡◌, ℕ, ◌^◌, ◌≤◌, Option, is_some, IfSome, length}
use Rattle.std.specs.List.{AllByRecursion}
use Rattle.std.specs.Option.{option_map}
use Rattle.coord_model.specs.Choice.{Settings, choice_data}
use Rattle.coord_model.specs.Tree.{Tree, depth, nodes_of, shape}
use Rattle.coord_model.specs.declared.cert.Cert.{Cert}
use Rattle.coord_model.specs.declared.cert.StudyHead.{StudyHead}
use Rattle.coord_text.specs.Claims.{BoundGoesWith, CostGoesWith, IsShort}
use Rattle.cert_text.specs.Nodes.{IsNode}
use Rattle.cert_text.specs.declared.kinds.CertHead.{CertHead}

-- what a certificate says: its head, the settings if some were issued, and the tree
pub record CertData : Type 0 where
  pub head : CertHead
  pub settings : Option Settings
  pub tree : Tree

-- the head of a certificate
abbrev pub head_of : Cert → CertHead
head_of cert = record {
  study = cert.study;
  ending = cert.ending;
  gap = cert.gap;
  budget = cert.budget;
  boxes = cert.boxes;
  bound = cert.bound;
  cost = cert.cost;
}

-- the data of a certificate
abbrev pub cert_data : Cert → CertData
cert_data cert = record { head = head_of cert; settings = option_map choice_data cert.choice; tree = shape cert.tree }

-- the format of a network file, and counts of relays and rows within the limits
pub record IsStudyHead (study : StudyHead) : Type 0 where
  pub format : (1 ≤ study.format) × (study.format ≤ 4)
  pub relays : (1 ≤ study.relays) × (study.relays ≤ 96)
  pub rows : study.rows ≤ 4096

-- numbers within their limits, and a bound and a cost that go with the ending
pub record IsHead (head : CertHead) : Type 0 where
  pub study : IfSome head.study IsStudyHead
  pub gap : (1 ≤ head.gap) × (head.gap ≤ 10 ^ 12)
  pub budget : (1 ≤ head.budget) × (head.budget ≤ 200000)
  pub boxes : (1 ≤ head.boxes) × (head.boxes ≤ 200000)
  pub bound_goes : BoundGoesWith head.ending head.bound
  pub bound_short : IsShort head.bound
  pub cost_goes : CostGoesWith head.ending head.cost
  pub cost_short : IsShort head.cost

-- a pickup step and a dial step for each of 1 to 96 relays
pub record AreSettings (settings : Settings) : Type 0 where
  pub paired : length settings.pickup ≡ length settings.dial
  pub some : 1 ≤ length settings.pickup
  pub few : length settings.pickup ≤ 96
  pub pickups : AllByRecursion (λ step. step ≤ 63) settings.pickup
  pub dials : AllByRecursion (λ step. step ≤ 3999) settings.dial

-- at most 3,072 splits on a path, at most 400,001 nodes, and each of them within its limits
pub record IsCertTree (tree : Tree) : Type 0 where
  pub paths : depth tree ≤ 3072
  pub nodes : length (nodes_of tree) ≤ 400001
  pub each : AllByRecursion IsNode (nodes_of tree)

-- the settings are there exactly if the cost is, and within their limits
pub record AreIssued (cost : Option ℕ) (settings : Option Settings) : Type 0 where
  pub exactly : is_some settings ≡ is_some cost
  pub within : IfSome settings AreSettings

-- a certificate within the limits
pub record IsCert (cert : CertData) : Type 0 where
  pub head : IsHead cert.head
  pub issued : AreIssued cert.head.cost cert.settings
  pub tree : IsCertTree cert.tree
