use Rattle.std.specs.Prelude.{Option}
use Rattle.std.proofs.Common.{◌≡◌}
use Rattle.std.proofs.lemmas.Result.{IfOk-weaker}
use Rattle.coord_model.specs.Choice.{Settings}
use Rattle.step_rules.specs.Handlings.{IsDivided, advised_of, tree_of}
use Rattle.step_rules.specs.Issuing.{costs}
use Rattle.step_rules.specs.Premises.{IsAsked}
use Rattle.step_rules.specs.Rules.{Handled, closed_later, voided, weighed}
use Rattle.step_rules.specs.Usable.{leaf_weights}
use Rattle.step_rules.specs.declared.handling.Handling.{Handling}
use Rattle.step_rules.proofs.RuleLaws.{failed, plain_leaf, split_handled, undecided}
use Rattle.step_rules.proofs.rules.judge.Goals as goal

pub returns-then-reaches-clause-handled : goal.returns-then-reaches-clause-handled
returns-then-reaches-clause-handled c issued later same asked =
    let case = c.args.inst.now in
    let parent = c.args.parent.now in
    plain_leaf case c.args.gap parent.ranges (leaf_weights parent.weights) (leaf_weights c.plain_weights.result) issued later c.plain_weights.ensures
    (closed_later c.requires.tightens asked (record {
      plain = c.plain.result;
      exact = c.plain.ensures case c.args.tight.ranges c.requires.tight.parts;
      reaches = (c.reaches.ensures case later same).0 c.if-reaches.true;
    }))

pub returns-then-is_void-clause-handled : goal.returns-then-is_void-clause-handled
returns-then-is_void-clause-handled c issued later same asked =
    let case = c.args.inst.now in
    let box = c.args.tight.ranges in
    voided c.requires.tightens
    (undecided case c.args.gap box (advised_of c.args.advice) issued later c.plain.result c.requires.tight.fits c.requires.tight.tight.steps (c.plain.ensures case box c.requires.tight.parts)
    (failed c.reaches.result c.if-reaches.false (c.reaches.ensures case later same)) asked)
    (rw c.deref.ensures.value at c.is_void.ensures.0 c.if-is_void.true)

pub returns-then-closes-clause-handled : goal.returns-then-closes-clause-handled
returns-then-closes-clause-handled c issued later same asked =
    let case = c.args.inst.now in
    let box = c.args.tight.ranges in
    weighed c.requires.tightens
    (undecided case c.args.gap box (advised_of c.args.advice) issued later c.plain.result c.requires.tight.fits c.requires.tight.tight.steps (c.plain.ensures case box c.requires.tight.parts)
    (failed c.reaches.result c.if-reaches.false (c.reaches.ensures case later same)) asked)
    (failed c.is_void.result c.if-is_void.false (rw c.deref.ensures.value at c.is_void.ensures)) ((c.closes.ensures later same).0 c.if-closes.true)

pub returns-clause-handled : goal.returns-clause-handled
returns-clause-handled c =
    let case = c.args.inst.now in
    let parent = c.args.parent.now in
    let box = c.args.tight.ranges in
    let own = leaf_weights parent.weights in
    let advised = advised_of c.args.advice in
    IfOk-weaker c.divide.result (λ (handling : Handling). IsDivided case box own advised handling)
    (λ (handling : Handling). (issued later : Option Settings) → c.args.cost ≡ costs case later → IsAsked case c.args.gap box advised issued later
    → Handled case c.args.gap parent.ranges own issued later (tree_of handling))
    (λ handling is issued later same asked.
    split_handled case c.args.gap parent.ranges box own advised issued later handling c.requires.tightens
    (undecided case c.args.gap box advised issued later c.plain.result c.requires.tight.fits c.requires.tight.tight.steps (c.plain.ensures case box c.requires.tight.parts)
    (failed c.reaches.result c.if-reaches.false (c.reaches.ensures case later same)) asked)
    (failed c.is_void.result c.if-is_void.false (rw c.deref.ensures.value at c.is_void.ensures))
    (failed c.closes.result c.if-closes.false (c.closes.ensures later same)) is) c.divide.ensures.split
