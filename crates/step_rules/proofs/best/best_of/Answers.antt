use Rattle.std.specs.Prelude.{[], ◌∷◌, ◌++◌, List}
use Rattle.std.proofs.lemmas.Result.{IfOk-weaker}
use Rattle.step_rules.specs.Usable.{AreBestOf, LeafWeights, leaf_weights, plain_weights}
use Rattle.step_rules.specs.declared.best.Best.{Best}
use Rattle.step_rules.proofs.Bests.{best_begun}
use Rattle.step_rules.proofs.best.best_of.Goals as goal

pub returns-in-None-clause-best : goal.returns-in-None-clause-best
returns-in-None-clause-best c =
    rw c.in-None.is
    (c.in_ok-best.ensures.best (plain_weights ∷ []) (best_begun c.args.inst.now c.args.ranges.now (leaf_weights c.plain_weights.result) c.args.plain c.requires.fits c.requires.steps c.requires.plain c.plain_weights.ensures))

pub returns-in-Some-clause-best : goal.returns-in-Some-clause-best
returns-in-Some-clause-best c =
    let case = c.args.inst.now in
    let box = c.args.ranges.now in
    let own = leaf_weights c.args.own.now in
    let advised = leaf_weights c.in-Some.advised.now in
    let begun : AreBestOf case box (plain_weights ∷ own ∷ []) (leaf_weights c.in_ok-best.best.weights) c.in_ok-best.best.bound =
    c.in_ok-best.ensures.best (plain_weights ∷ []) (best_begun case box (leaf_weights c.plain_weights.result) c.args.plain c.requires.fits c.requires.steps c.requires.plain c.plain_weights.ensures) in
    rw c.in-Some.is
    (IfOk-weaker c.better-in-Some.result
    (λ (later : Best). (several : List LeafWeights) → AreBestOf case box several (leaf_weights c.in_ok-best.best.weights) c.in_ok-best.best.bound
    → AreBestOf case box (several ++ (advised ∷ [])) (leaf_weights later.weights) later.bound)
    (λ (later : Best). AreBestOf case box (plain_weights ∷ own ∷ advised ∷ []) (leaf_weights later.weights) later.bound)
    (λ later more. more (plain_weights ∷ own ∷ []) begun) c.better-in-Some.ensures.best)
