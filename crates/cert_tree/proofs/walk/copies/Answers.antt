use Rattle.std.proofs.Common.{◌≡◌, ℕ, arith, ap, replicate, ◌∙◌}
use Rattle.cert_tree.proofs.walk.copies.Goals as goal

pub returns : goal.returns
returns c =
    let all : c.loop.counter ≡ c.args.places = omega (arith, c.loop-test.false, c.loop.auto.counter-end) in
    c.loop.invariant ∙ ap (λ (n : ℕ). replicate n c.args.ranges.now) all
