use Rattle.std.proofs.Common.{◌≡◌, ◌≢◌, ℕ, List, ◌<◌, ◌∷◌, ◌++◌, Some, length, ap, subst, refl, sym, ◌∙◌, arith, below_more}
use Rattle.std.specs.Prelude.{slice_get, IfSome}
use Rattle.std.proofs.lemmas.Option.{slice_get_read}
use Rattle.coord_model.specs.Allowed.{IsOnSteps}
use Rattle.coord_model.specs.Choice.{choice_data}
use Rattle.coord_model.specs.Name.{IsName}
use Rattle.coord_model.specs.StudyData.{study_data}
use Rattle.coord_text.specs.Claims.{text_of}
use Rattle.coord_text.proofs.TextSteps.{text_step}
use Rattle.settings_sheet.specs.RelayStops.{IsRelayStop, first_lines}
use Rattle.settings_sheet.specs.SheetLines.{relay_words}
use Rattle.settings_sheet.proofs.Settled.{lines_put, steps_put}
use Rattle.settings_sheet.proofs.relay_lines.read_choice.Goals as goal

pub returns-in_default-clause-stops : goal.returns-in_default-clause-stops
returns-in_default-clause-stops c =
    let study = study_data c.args.study.now in
    let i = c.loop-i.i in
    let found : slice_get study.relays i ≡ Some c.index.result.now =
    slice_get_read study.relays (length study.relays) i c.index.result.now refl (omega (arith, c.args.study.now.relays.ok.0)) c.index.ensures in
    subst (IsRelayStop study c.args.text.now) (sym c.fault.ensures) (record {
      at = i;
      in_study = omega (arith, c.args.study.now.relays.ok.0);
      number = refl;
      due = refl;
      settings = choice_data c.loop-i.choice;
      on_steps = c.loop-i.invariant.on_steps;
      left = c.loop-i.left.now;
      parts = c.loop-i.invariant.parts;
      names = below_more (λ j. IfSome (slice_get study.relays j) (λ r. IsName r.name)) i c.loop-i.invariant.names
          (subst (λ o. IfSome o (λ r. IsName r.name)) (sym found) c.read_relay.ensures.name);
      no_such = subst (λ o. IfSome o (λ relay. (pickup dial : ℕ) (rest : List ℕ) → IsOnSteps relay pickup dial → c.loop-i.left.now ≢ relay_words relay pickup dial ++ 10 ∷ rest))
          (sym found) (c.in_default.ensures.no_such refl);
    })

pub loop-i-preserved : goal.loop-i-preserved
loop-i-preserved c =
    let study = study_data c.args.study.now in
    let settings = choice_data c.loop-i.choice in
    let i = c.loop-i.i in
    let relay = c.index.result.now in
    let within : i < length study.relays = omega (arith, c.args.study.now.relays.ok.0) in
    let found : slice_get study.relays i ≡ Some relay = slice_get_read study.relays (length study.relays) i relay refl within c.index.ensures in
    let lines = lines_put study settings i c.in-Some.pickup c.in-Some.dial relay c.loop-i.invariant.on_steps within found in
    record {
      on_steps = steps_put study settings i c.in-Some.pickup c.in-Some.dial relay c.loop-i.invariant.on_steps within found c.in-Some.ensures.on_steps;
      parts = c.loop-i.invariant.parts ∙ ap (λ w. text_of (first_lines study settings i) ++ w) c.in-Some.ensures.said
          ∙ sym (text_step (first_lines study settings i) (relay_words relay c.in-Some.pickup c.in-Some.dial) c.in-Some.rest.now)
          ∙ ap (λ l. text_of l ++ c.in-Some.rest.now) (sym lines);
      names = below_more (λ j. IfSome (slice_get study.relays j) (λ r. IsName r.name)) i c.loop-i.invariant.names
          (subst (λ o. IfSome o (λ r. IsName r.name)) (sym found) c.read_relay.ensures.name);
    }

pub returns-clause-said : goal.returns-clause-said
returns-clause-said c =
    let study = study_data c.args.study.now in
    let end : c.loop-i.i ≡ length study.relays = omega (arith, c.args.study.now.relays.ok.0) in
    c.loop-i.invariant.parts ∙ ap (λ k. text_of (first_lines study (choice_data c.loop-i.choice) k) ++ c.loop-i.left.now) end
