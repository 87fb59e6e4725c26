use Rattle.std.specs.Prelude.{Option}
use Rattle.std.proofs.lemmas.Result.{IfOk-weaker}
use Rattle.step_rules.specs.Handlings.{LeavesHalves}
use Rattle.step_rules.specs.Issuing.{latest, settings_of}
use Rattle.step_rules.specs.Rules.{closed}
use Rattle.step_rules.specs.Usable.{leaf_weights}
use Rattle.step_rules.specs.declared.handling.Handling.{Handling}
use Rattle.step_rules.specs.declared.issued.Issued.{Issued}
use Rattle.step_rules.specs.declared.open_box.OpenBox.{OpenBox}
use Rattle.step_rules.proofs.RuleLaws.{failed, not_plain, plain_leaf}
use Rattle.step_rules.proofs.rules.handle_tight.Goals as goal

pub returns-then-has_one_pickup-clause-halves : goal.returns-then-has_one_pickup-clause-halves
returns-then-has_one_pickup-clause-halves g c =
    let case = c.args.inst.now in
    IfOk-weaker c.settle.result (λ (done : Handling × Option Issued). (parent : OpenBox) → LeavesHalves case parent done.0)
    (λ (done : Handling × Option Issued). LeavesHalves case c.args.parent.now done.0) (λ done all. all c.args.parent.now) c.settle.ensures.halves

pub returns-then-reaches-clause-handled : goal.returns-then-reaches-clause-handled
returns-then-reaches-clause-handled g c =
    let case = c.args.inst.now in
    let parent = c.args.parent.now in
    let issued = settings_of c.args.issued.now in
    plain_leaf case c.args.gap parent.ranges (leaf_weights parent.weights) (leaf_weights c.plain_weights.result) issued issued c.plain_weights.ensures
    (closed c.requires.tightens (failed c.has_one_pickup.result c.if-has_one_pickup.false c.has_one_pickup.ensures) (record {
      plain = c.plain.result;
      exact = c.plain.ensures case c.args.tight.ranges c.requires.tight.parts;
      reaches = (c.reaches.ensures case issued c.latest_cost.ensures).0 c.if-reaches.true;
    }))

pub returns-clause-handled : goal.returns-clause-handled
returns-clause-handled g c =
    let case = c.args.inst.now in
    let box = c.args.tight.ranges in
    let issued = settings_of c.args.issued.now in
    c.in_ok-handling.ensures.handled issued (latest c.args.issued.now c.in_ok-new.new) c.latest_cost-cost.ensures
    (c.in_ok-new.ensures.asked c.args.gap
    (not_plain case c.args.gap box issued c.plain.result c.requires.tight.fits c.requires.tight.tight.steps (c.plain.ensures case box c.requires.tight.parts)
    (failed c.reaches.result c.if-reaches.false (c.reaches.ensures case issued c.latest_cost.ensures))))
