-- What a check of a whole certificate rests on: its tree and its claim are judged in one way only.
use Rattle.std.specs.Borrow.{Bor}
use Rattle.std.specs.Option.{option_map}
use Rattle.std.specs.Prelude.{IfSome}
use Rattle.std.proofs.Common.{◌≡◌, ℕ, List, [], Option, None, Some, sym, ap, ◌∙◌, subst}
use Rattle.coord_model.specs.Choice.{Settings, choice_data}
use Rattle.coord_model.specs.declared.choice.Choice.{Choice}
use Rattle.coord_model.specs.Tree.{Tree, nodes_of}
use Rattle.cert_text.specs.CertData.{CertData, IsCert}
use Rattle.cert_text.specs.declared.kinds.CertHead.{CertHead}
use Rattle.cert_text.proofs.SameCerts.{same_cert}
use Rattle.cert_tree.specs.Holding.{Fails, Holds}
use Rattle.cert_tree.specs.declared.counts.Counts.{Counts}
use Rattle.cert_tree.specs.declared.kind.NodeKind.{NodeKind}
use Rattle.cert_tree.proofs.Proving.{holds_proves}
use Rattle.cert_tree.proofs.WalkedTrees.{walk_counts, walk_due, walk_holds}
use Rattle.cert_tree.proofs.TreeLaws.{holds_not_fails, holds_only}
use Rattle.margin_rows.specs.Box.{Box, IsFirstBox}
use Rattle.margin_rows.specs.Case.{Case, FitsCase}
use Rattle.margin_rows.proofs.Boxed.{allowed_in_first_box}
use Rattle.margin_rows.proofs.Inside.{first_box_holds}
use Rattle.margin_rows.proofs.Spanned.{first_box_fits, first_box_only}
use Rattle.cert_check.specs.Accepted.{BoundsAll}
use Rattle.cert_check.specs.Endings.{SawCert}
use Rattle.cert_check.specs.Seen.{Saw}
use Rattle.cert_check.specs.declared.found.Found.{Found}
use Rattle.cert_check.specs.declared.lines.LineCheck.{LineCheck}
use Rattle.cert_check.specs.declared.nodes.NodeFault.{NodeFault}
use Rattle.cert_tree.specs.TreeWalks.{walk_at}
use Rattle.cert_tree.specs.Walks.{Walk, Walked}
use Rattle.cert_check.specs.Rightness.{HoldsWith, IsRight, IsTextOf}
use Rattle.cert_check.specs.Claims.{Agrees}
use Rattle.cert_check.specs.TreeGives.{found_by, found_of}
use Rattle.cert_check.proofs.WholeCerts.{leaves_fit}

-- bytes are the text of one certificate
pub same_text : (a b : CertData) (bytes : List ℕ) → IsTextOf a bytes → IsTextOf b bytes → a ≡ b
same_text a b bytes of_a of_b = same_cert a b of_a.is of_b.is (sym of_a.text ∙ of_b.text)

-- a right certificate has no node that is wrong
pub right_not_fails : (case : Case) (cert : CertData) (box : Box) (number : ℕ) (kind : NodeKind) → IsRight case cert → IsFirstBox case box → Fails case box cert.tree number kind → ⊥
right_not_fails case cert box number kind right first fails =
    let h = right.holds in
    let same = first_box_only case h.box box h.first first in
    holds_not_fails case box cert.tree right.bound number kind (subst (λ (b : Box). Holds case b cert.tree right.bound) same h.holds) fails

-- its claim agrees with what its tree gives
pub right_agrees : (case : Case) (cert : CertData) (bound : Option ℕ) → IsRight case cert → HoldsWith case cert bound → Agrees case cert.head cert.settings (found_of cert.tree bound cert.head)
right_agrees case cert bound right holds =
    let h = right.holds in
    let same = first_box_only case h.box holds.box h.first holds.first in
    let only : right.bound ≡ bound =
    holds_only case holds.box cert.tree right.bound bound (first_box_fits case holds.box holds.first) (subst (λ (b : Box). Holds case b cert.tree right.bound) same h.holds) holds.holds in
    subst (λ (b : Option ℕ). Agrees case cert.head cert.settings (found_of cert.tree b cert.head)) only right.agrees

-- a tree that holds at the first box bounds all allowed settings
pub bounds_all : (case : Case) (cert : CertData) (bound : Option ℕ) → FitsCase case → IsCert cert → HoldsWith case cert bound → BoundsAll case bound
bounds_all case cert None limits is h = λ settings allowed.
    holds_proves case h.box cert.tree None limits (first_box_fits case h.box h.first) (leaves_fit cert.tree is.tree.each) h.holds settings
    (first_box_holds case h.box settings h.first (allowed_in_first_box case settings allowed)) allowed
bounds_all case cert (Some b) limits is h = λ settings allowed.
    holds_proves case h.box cert.tree (Some b) limits (first_box_fits case h.box h.first) (leaves_fit cert.tree is.tree.each) h.holds settings
    (first_box_holds case h.box settings h.first (allowed_in_first_box case settings allowed)) allowed

-- what a walk over the nodes of a certificate gives
pub record Given (case : Case) (cert : CertData) (walk : Walk) (found : Found) : Type 0 where
  pub holds : HoldsWith case cert walk.bound
  pub found_is : found ≡ found_of cert.tree walk.bound cert.head

-- what is found of a walk over the nodes of a tree is what the tree gives
pub walk_found : (case : Case) (box : Box) (tree : Tree) (walk : Walk) (head : CertHead) (found : Found) → found ≡ found_by walk.counts walk.bound head
    → Walked case (walk_at box) (nodes_of tree) walk → found ≡ found_of tree walk.bound head
walk_found case box tree walk head found is walked = is ∙ ap (λ (k : Counts). found_by k walk.bound head) (walk_counts case box tree walk walked)

pub given : (case : Case) (check : LineCheck) (bytes : List ℕ) (saw : SawCert case check bytes) (head : CertHead) (found : Found) → check.nodes.fault ≡ None → head ≡ saw.cert.head
    → ((c : Case) (box : Box) (tree : Tree) → Walked c (walk_at box) (nodes_of tree) check.nodes.walk → found ≡ found_of tree check.nodes.walk.bound head)
    → Given case saw.cert check.nodes.walk found
given case check bytes saw head found none is_head gives =
    let walked = subst (λ (f : Option NodeFault). Saw case saw.box check.nodes.walk f (nodes_of saw.cert.tree)) none saw.saw in
    record {
      holds = record { box = saw.box; first = saw.first; holds = walk_holds case saw.box saw.cert.tree check.nodes.walk walked.0 };
      found_is = gives case saw.box saw.cert.tree walked.0 ∙ ap (λ (h : CertHead). found_of saw.cert.tree check.nodes.walk.bound h) is_head;
    }

-- nothing is due after the nodes of a certificate
pub none_due : (case : Case) (check : LineCheck) (bytes : List ℕ) (saw : SawCert case check bytes) → check.nodes.fault ≡ None → check.nodes.walk.due ≡ []
none_due case check bytes saw none =
    let walked = subst (λ (f : Option NodeFault). Saw case saw.box check.nodes.walk f (nodes_of saw.cert.tree)) none saw.saw in
    walk_due case saw.box saw.cert.tree check.nodes.walk walked.0

-- what is so of a head, of settings and of what was found is so of equal ones
pub moved : (P : CertHead → Option Settings → Found → Type 0) (h g : CertHead) (s t : Option Settings) (f k : Found) → h ≡ g → s ≡ t → f ≡ k → P h s f → P g t k
moved P h g s t f k same_head same_settings same_found is = subst (λ (x : Found). P g t x) same_found (subst (λ (x : Option Settings). P g x f) same_settings (subst (λ (x : CertHead). P x s f) same_head is))

-- what is so of a choice, if there is one, is so of its settings
pub of_choice : (P : Settings → Type 0) (choice : Option (Bor Choice)) → IfSome choice (λ c. P (choice_data c.now)) → IfSome (option_map (λ (c : Bor Choice). choice_data c.now) choice) P
of_choice P None is = is
of_choice P (Some c) is = is
