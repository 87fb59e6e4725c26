use Rattle.std.proofs.Common.{◌^◌, ◌+◌, ◌<◌, arith}
use Rattle.margin_rows.specs.Case.{term_at}
use Rattle.margin_rows.proofs.Widths.{IsWidest, widest_more, picked_small, widest_is_greatest}
use Rattle.margin_rows.proofs.gap.widest.Goals as goal
use Rattle.margin_rows.proofs.gap.widest.Goals.{After-max-greatest}

-- one step more
more : (c : After-max-greatest) → let t = term_at c.args.inst.now c.args.term in IsWidest c.args.inst.now t.fault t.relay c.args.low (c.loop-step.step + 1) c.max-greatest.result × (c.max-greatest.result < 2 ^ 40)
more c =
    let case = c.args.inst.now in
    let t = term_at case c.args.term in
    let time = c.term_time-lower in (
      widest_more case t.fault t.relay c.args.low c.loop-step.step c.loop-step.greatest c.max-greatest.result time.result.0 time.result.1 c.loop-step.auto.step time.ensures.lower time.ensures.upper time.ensures.ordinary c.max-greatest.ensures c.loop-step.invariant.widest,
      picked_small case t.fault t.relay c.loop-step.step c.loop-step.greatest c.max-greatest.result time.result.0 time.result.1 time.ensures.upper time.ensures.ordinary c.max-greatest.ensures c.loop-step.invariant.small,
    )

pub loop-step-preserved : goal.loop-step-preserved
loop-step-preserved c = let m = more (goal.at.loop-step-preserved c).After-max-greatest in record { widest = m.0; small = m.1 }

pub returns-2-clause-exact : goal.returns-2-clause-exact
returns-2-clause-exact c =
    let case = c.args.inst.now in
    let t = term_at case c.args.term in
    widest_is_greatest case t.fault t.relay c.args.low c.args.high (c.loop-step.step + 1) c.max-greatest.result c.requires.span (omega arith) (more (goal.at.returns-2-clause-exact c).After-max-greatest).0

pub returns-2-clause-small : goal.returns-2-clause-small
returns-2-clause-small c = (more (goal.at.returns-2-clause-small c).After-max-greatest).1
