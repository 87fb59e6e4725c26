-- A certificate that is right is not refused.
use Rattle.std.proofs.Common.{◌∙◌, ℕ, Option, Some, None, Err, List, ap, arith, subst, sym}
use Rattle.cert_check.proofs.Judging.{right_agrees, right_not_fails, same_text}
use Rattle.cert_check.specs.Accepted.{Answers}
use Rattle.cert_check.specs.ClaimFaults.{IsFirstClaimFault, IsFirstOfSettings}
use Rattle.cert_check.specs.Claims.{Agrees, IfPrinted, IsOfStudy, IsPriced, IsPrintedAnd}
use Rattle.cert_check.specs.declared.found.Found.{Found}
use Rattle.cert_check.specs.declared.kind.ClaimKind.{ClaimKind}
use Rattle.cert_check.specs.declared.kind.ClaimKind.TheVariants as claim
use Rattle.cert_check.specs.declared.refusal.CheckRefusal.{CheckRefusal}
use Rattle.cert_check.specs.declared.refusal.CheckRefusal.TheVariants as no
use Rattle.cert_check.specs.Rightness.{HoldsWith, IsRight, IsTextOf}
use Rattle.cert_check.specs.TreeGives.{found_of}
use Rattle.cert_tree.specs.Holding.{Fails}
use Rattle.cert_text.specs.CertData.{CertData}
use Rattle.cert_text.specs.declared.kinds.CertHead.{CertHead}
use Rattle.coord_model.specs.Choice.{Settings}
use Rattle.coord_run.proofs.GapLaws.{one_least}
use Rattle.margin_rows.proofs.Boxed.{pickup_first}
use Rattle.margin_rows.proofs.Dialled.{dial_on_step}
use Rattle.margin_rows.specs.Case.{Case}

-- ---- a claim that agrees has no fault

printed_both : (P Q : Settings → ℕ → Type 0) (settings : Option Settings) (cost : Option ℕ) → ((s : Settings) (n : ℕ) → P s n → Q s n → ⊥)
    → IfPrinted settings cost P → IsPrintedAnd settings cost Q → ⊥
printed_both P Q (Some settings) (Some cost) clash right wrong = clash settings cost right wrong
printed_both P Q (Some settings) None clash right wrong = wrong
printed_both P Q None cost clash right wrong = wrong

-- priced settings have no fault of settings
priced_right : (case : Case) (kind : ClaimKind) (settings : Settings) (cost : ℕ) → IsPriced case settings cost → IsFirstOfSettings case kind settings cost → ⊥
priced_right case (claim.Relays printed found) settings cost priced wrong = wrong.apart priced.inside.on_steps.pickups
priced_right case (claim.Step relay) settings cost priced wrong =
    wrong.1.off (record { pickup = pickup_first case settings relay priced.inside wrong.1.in_study; dial = dial_on_step case settings relay priced.inside.on_steps wrong.1.in_study })
priced_right case (claim.Row row) settings cost priced wrong = wrong.1.unmet (priced.meets row _ wrong.1.is_row)
priced_right case (claim.Cost printed found) settings cost priced wrong = wrong.2.apart priced.costs
priced_right case (claim.Study printed found) settings cost priced wrong = wrong
priced_right case (claim.Boxes printed found) settings cost priced wrong = wrong
priced_right case (claim.Bound printed found) settings cost priced wrong = wrong
priced_right case (claim.Gap printed least) settings cost priced wrong = wrong
priced_right case (claim.EndingIs printed found) settings cost priced wrong = wrong

-- a claim that agrees has no fault
agrees_not : (case : Case) (head : CertHead) (settings : Option Settings) (found : Found) (kind : ClaimKind) → Agrees case head settings found
    → IsFirstClaimFault case head settings found kind → ⊥
agrees_not case head settings found (claim.Study p f) agrees wrong = wrong.2 (subst (IsOfStudy case) (sym wrong.0) agrees.right.study)
agrees_not case head settings found (claim.Boxes p f) agrees wrong = wrong.1.apart agrees.boxes
agrees_not case head settings found (claim.Bound p f) agrees wrong = wrong.1.1.apart agrees.bound
agrees_not case head settings found (claim.Gap p least) agrees wrong =
    let same = one_least case agrees.gap.least least agrees.gap.exact wrong.1.3 in
    omega (arith, same, agrees.gap.at_least, wrong.1.2, wrong.1.4)
agrees_not case head settings found (claim.EndingIs p f) agrees wrong = wrong.1.5 (ap Some wrong.1.3 ∙ agrees.ending ∙ sym wrong.1.4)
agrees_not case head settings found (claim.Relays p f) agrees wrong =
    printed_both (IsPriced case) (IsFirstOfSettings case (claim.Relays p f)) settings head.cost (priced_right case (claim.Relays p f)) agrees.right.priced wrong.1
agrees_not case head settings found (claim.Step relay) agrees wrong =
    printed_both (IsPriced case) (IsFirstOfSettings case (claim.Step relay)) settings head.cost (priced_right case (claim.Step relay)) agrees.right.priced wrong.1
agrees_not case head settings found (claim.Row row) agrees wrong =
    printed_both (IsPriced case) (IsFirstOfSettings case (claim.Row row)) settings head.cost (priced_right case (claim.Row row)) agrees.right.priced wrong.1
agrees_not case head settings found (claim.Cost p f) agrees wrong =
    printed_both (IsPriced case) (IsFirstOfSettings case (claim.Cost p f)) settings head.cost (priced_right case (claim.Cost p f)) agrees.right.priced wrong.1

-- a certificate that is right is not refused
pub right_not_refused : (case : Case) (cert : CertData) (bytes : List ℕ) (found : CheckRefusal) → IsTextOf cert bytes → IsRight case cert → Answers case bytes (Err found) → ⊥
right_not_refused case cert bytes (no.Cert line kind) text right wrong = wrong.no_cert cert text.is text.text
right_not_refused case cert bytes (no.Tree number kind) text right wrong =
    let same = same_text wrong.cert cert bytes wrong.text text in
    right_not_fails case cert wrong.box number kind right wrong.first (subst (λ (c : CertData). Fails case wrong.box c.tree number kind) same wrong.fails)
right_not_refused case cert bytes (no.Claim kind) text right wrong =
    let same = same_text wrong.cert cert bytes wrong.text text in
    let holds = subst (λ (c : CertData). HoldsWith case c wrong.bound) same wrong.holds in
    let fault = subst (λ (c : CertData). IsFirstClaimFault case c.head c.settings (found_of c.tree wrong.bound c.head) kind) same wrong.fault in
    agrees_not case cert.head cert.settings (found_of cert.tree wrong.bound cert.head) kind (right_agrees case cert wrong.bound right holds) fault
right_not_refused case cert bytes no.Missing text right wrong = wrong
right_not_refused case cert bytes no.ReadFault text right wrong = wrong
right_not_refused case cert bytes (no.TooLong limit) text right wrong = wrong
right_not_refused case cert bytes no.NoMemory text right wrong = wrong
