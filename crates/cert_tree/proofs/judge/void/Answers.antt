use Rattle.std.proofs.Common.{rules, ◌≡◌, arith}
use Rattle.std.proofs.lemmas.Int.{ints, to_z-of_z}
use mir.Syntax.{w128}
use mir.Val.{SFits}
use Rattle.cert_tree.proofs.NodeLaws.{not_void}
use Rattle.cert_tree.proofs.judge.void.Goals as goal

pub returns-else-value-gt0-clause-exact : goal.returns-else-value-gt0-clause-exact
returns-else-value-gt0-clause-exact c = λ names.
    not_void c.args.inst.now c.args.ranges.now c.tighten.new.ranges c.args.weights.now names (search rules) (λ void.
    let fits : SFits w128 c.value.result = search rules in
    let low = rw (to_z-of_z w128 c.value.result fits) at c.if-value-gt0.false in
    let same : void.value ≡ c.value.result = c.value.ensures.only void.value void.dual in
    omega (arith, ints, same, void.above, low))
