use Rattle.std.proofs.Common.{◌≡◌, ◌+◌, ◌*◌, ◌^◌, ◌≤◌, ◌∙◌, arith, ap, get_or, ℕ}
use Rattle.margin_rows.specs.Tables.{no_time}
use Rattle.margin_rows.specs.Times.{time_at}
use Rattle.margin_rows.specs.declared.ends.Ends.{Ends}
use Rattle.margin_rows.proofs.Summed.{IsTimeRead, time_read, part_is, weighted_small}
use Rattle.margin_rows.proofs.sums.weighted_time.Goals as goal
use Rattle.margin_rows.proofs.sums.weighted_time.Goals.{After-from, After-weight}

read : (c : After-from) → IsTimeRead c.args.given.now c.args.times.now c.args.term c.args.start c.args.step
read c = time_read c.args.given.now c.args.times.now c.args.term c.args.start c.args.step c.requires.fits c.requires.term c.requires.run c.requires.step

pub overflow_add-lower : goal.overflow_add-lower
overflow_add-lower c = omega (arith, c.from.ensures, (read (goal.at.overflow_add-lower c).After-from).within)

pub offset_bounds-times-start : goal.offset_bounds-times-start
offset_bounds-times-start c = omega (arith, c.from.ensures, (read (goal.at.offset_bounds-times-start c).After-from).within)

pub bounds-times-start : goal.bounds-times-start
bounds-times-start c = omega (arith, c.from.ensures, (read (goal.at.bounds-times-start c).After-from).within)

pub weight-requires : goal.weight-requires
weight-requires c = (read (goal.at.weight-requires c).After-from).facts.fault

-- the time is that at the lower end
time_is : (c : After-weight) → IsTimeRead c.args.given.now c.args.times.now c.args.term c.args.start c.args.step
    → (get_or c.args.times.now (c.args.start + c.from.result) no_time).lower ≡ (time_at c.args.given.now c.args.term.fault c.args.term.relay c.args.step).lower
time_is c r = ap (λ (k : ℕ). (get_or c.args.times.now (c.args.start + k) no_time).lower) c.from.ensures ∙ ap (λ (e : Ends). e.lower) r.time

small : (c : After-weight) → c.weight.result * (get_or c.args.times.now (c.args.start + c.from.result) no_time).lower ≤ 2 ^ 50
small c =
    let r = read (goal.at.returns-clause-small c).After-from in
    rw (time_is c r) (weighted_small c.args.given.now c.args.term.fault c.args.term.relay c.args.step c.weight.result r.ordinary c.weight.ensures.small)

pub overflow_mul-result : goal.overflow_mul-result
overflow_mul-result c = omega (arith, small c)

pub returns-clause-exact : goal.returns-clause-exact
returns-clause-exact c =
    let r = read (goal.at.returns-clause-exact c).After-from in
    part_is c.args.given.now c.args.term c.args.step c.weight.result _ c.weight.ensures.exact (time_is c r)

pub returns-clause-small : goal.returns-clause-small
returns-clause-small c = small c
