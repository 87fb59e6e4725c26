use Rattle.margin_rows.specs.Halves.{IsHalf}
use Rattle.margin_rows.proofs.Within.{within_within}
use Rattle.box_range.proofs.Order.{drops_within}
use Rattle.step_rules.specs.Usable.{leaf_weights}
use Rattle.step_rules.proofs.HalfLaws.{bound_within, steps_round}
use Rattle.step_rules.proofs.rules.divide.Goals as goal

pub returns-clause-halves : goal.returns-clause-halves
returns-clause-halves c =
    let case = c.args.inst.now in
    let parent = c.args.parent.now in
    let tight = c.args.tight.now.ranges in
    let within = drops_within case parent.ranges tight c.requires.tightens.led in
    let own = leaf_weights parent.weights in
    let before = c.requires.parent.bound.steps (steps_round tight parent.ranges within c.requires.tight.tight.steps) in
    let lower : IsHalf c.in_ok-lower.lower tight = c.in_ok-lower.ensures.low in
    let upper : IsHalf c.in_ok-lower.upper tight = c.in_ok-lower.ensures.high in
    record {
      tight = tight;
      tightens = c.requires.tightens;
      halves = rw (c.in_ok-half.ensures.ranges, c.in_ok-half-2.ensures.ranges) c.in_ok-lower.ensures.exact;
      low_open = c.in_ok-half.ensures.fits;
      high_open = c.in_ok-half-2.ensures.fits;
      low_not_below = bound_within case c.in_ok-lower.lower parent.ranges own parent.bound c.in_ok-half.field-0.bound (within_within c.in_ok-lower.lower tight parent.ranges lower.within within)
          (lower.steps c.requires.tight.tight.steps) (lower.fits case c.requires.tight.fits).dials c.requires.parent.weights.some_lambda before c.in_ok-half.ensures.own;
      high_not_below = bound_within case c.in_ok-lower.upper parent.ranges own parent.bound c.in_ok-half-2.field-0.bound (within_within c.in_ok-lower.upper tight parent.ranges upper.within within)
          (upper.steps c.requires.tight.tight.steps) (upper.fits case c.requires.tight.fits).dials c.requires.parent.weights.some_lambda before c.in_ok-half-2.ensures.own;
    }
