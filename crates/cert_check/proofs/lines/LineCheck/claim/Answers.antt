use Rattle.std.specs.Prelude.{IfSome, Option}
use Rattle.std.proofs.Common.{◌≡◌, ℕ, refl, sym, ap, ◌∙◌, subst}
use Rattle.coord_model.specs.Allowed.{IsAllowed}
use Rattle.coord_model.specs.Choice.{Settings}
use Rattle.coord_model.specs.Cost.{CostsAtMost}
use Rattle.cert_text.specs.CertData.{CertData}
use Rattle.cert_text.specs.HeadScan.{IsFront}
use Rattle.cert_text.specs.declared.kinds.CertHead.{CertHead}
use Rattle.cert_text.specs.declared.kinds.CertKind.{CertKind}
use Rattle.cert_check.specs.Accepted.{BoundsAll}
use Rattle.cert_check.specs.ClaimFaults.{IsFirstClaimFault}
use Rattle.cert_check.specs.Claims.{Agrees, IfPrinted}
use Rattle.cert_check.specs.Rightness.{IsRight, claim_of}
use Rattle.cert_check.specs.declared.found.Found.{Found}
use Rattle.cert_check.proofs.Judging.{bounds_all, given, moved, none_due, of_choice, right_agrees, same_text}
use Rattle.cert_check.proofs.lines.LineCheck.claim.Goals as goal

pub found_in-found-requires : goal.found_in-found-requires
found_in-found-requires c = none_due c.args.inst.now c.args.self.now c.requires.known.0 c.requires.known.1 c.requires.holds

pub choice-requires : goal.choice-requires
choice-requires c = record { taken = subst (λ (k : CertKind). ¬ (IsFront k)) (sym c.requires.known.1.last) (λ gone. gone) }

pub returns-in-Ok-clause-answers : goal.returns-in-Ok-clause-answers
returns-in-Ok-clause-answers c = λ bytes saw.
    let case = c.args.inst.now in
    let gives = given c.args.inst.now c.args.self.now bytes saw c.head-head.result.now c.found_in-found.result c.requires.holds (c.head-head.ensures ∙ saw.head) c.found_in-found.ensures.gives in
    let head = c.head-head.ensures ∙ saw.head in
    let settings = c.choice.ensures ∙ saw.settings in
    record {
      cert = saw.cert;
      text = saw.text;
      right = record {
        bound = c.args.self.now.nodes.walk.bound;
        holds = gives.holds;
        agrees = moved (λ (h : CertHead) (s : Option Settings) (f : Found). Agrees case h s f) _ _ _ _ _ _ head settings gives.found_is (c.in-Ok.ensures.agrees refl);
      };
      claim_is = c.in-Ok.ensures.value ∙ ap claim_of head;
      allowed = subst (λ (s : Option Settings). IfSome s (IsAllowed case.study case.currents)) settings (of_choice (IsAllowed case.study case.currents) c.choice.result (c.in-Ok.ensures.allowed refl));
      at_most = moved (λ (h : CertHead) (s : Option Settings) (f : Found). IfPrinted s h.cost (CostsAtMost case.study case.currents)) _ _ _ _ _ _ head settings gives.found_is (c.in-Ok.ensures.at_most refl);
    }

pub returns-in-Ok-clause-proves : goal.returns-in-Ok-clause-proves
returns-in-Ok-clause-proves c =
    let case = c.args.inst.now in
    let saw = c.requires.known.1 in
    let gives = given c.args.inst.now c.args.self.now c.requires.known.0 saw c.head-head.result.now c.found_in-found.result c.requires.holds (c.head-head.ensures ∙ saw.head) c.found_in-found.ensures.gives in
    let agrees = c.in-Ok.ensures.agrees refl in
    let same : c.args.self.now.nodes.walk.bound ≡ c.in-Ok.claim.bound =
    sym (ap (λ (f : Found). f.bound) gives.found_is) ∙ sym agrees.bound ∙ sym (ap (λ k. k.bound) c.in-Ok.ensures.value) in
    subst (λ (b : Option ℕ). BoundsAll case b) same (bounds_all case saw.cert c.args.self.now.nodes.walk.bound c.in-Ok.ensures.fits saw.text.is gives.holds)

pub returns-in-Err-clause-answers : goal.returns-in-Err-clause-answers
returns-in-Err-clause-answers c = λ bytes saw.
    let case = c.args.inst.now in
    let gives = given c.args.inst.now c.args.self.now bytes saw c.head-head.result.now c.found_in-found.result c.requires.holds (c.head-head.ensures ∙ saw.head) c.found_in-found.ensures.gives in
    record {
      cert = saw.cert;
      text = saw.text;
      bound = c.args.self.now.nodes.walk.bound;
      holds = gives.holds;
      fault = moved (λ (h : CertHead) (s : Option Settings) (f : Found). IsFirstClaimFault case h s f c.in-Err.kind) _ _ _ _ _ _ (c.head-head.ensures ∙ saw.head) (c.choice.ensures ∙ saw.settings) gives.found_is c.in-Err.ensures.first;
    }

pub returns-in-Err-clause-accepts : goal.returns-in-Err-clause-accepts
returns-in-Err-clause-accepts c = λ bytes cert saw text right.
    let case = c.args.inst.now in
    let gives = given c.args.inst.now c.args.self.now bytes saw c.head-head.result.now c.found_in-found.result c.requires.holds (c.head-head.ensures ∙ saw.head) c.found_in-found.ensures.gives in
    let one = same_text cert saw.cert bytes text saw.text in
    let agrees = right_agrees case saw.cert c.args.self.now.nodes.walk.bound (subst (λ (k : CertData). IsRight case k) one right) gives.holds in
    absurd (cc (c.in-Err.ensures.accepts (moved (λ (h : CertHead) (s : Option Settings) (f : Found). Agrees case h s f) _ _ _ _ _ _ (sym (c.head-head.ensures ∙ saw.head)) (sym (c.choice.ensures ∙ saw.settings)) (sym gives.found_is) agrees)))
