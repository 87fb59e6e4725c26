use Rattle.std.proofs.Common.{arith}
use Rattle.coord_model.specs.declared.study.RowKind.TheVariants.{Interval}
use Rattle.margin_rows.proofs.Listed.{row_facts_at}
use Rattle.margin_rows.proofs.Reached.{row_step, rows_none, rows_all_used}
use Rattle.margin_rows.proofs.spans.leave_rows.Goals as goal

pub loop-row-init : goal.loop-row-init
loop-row-init c = rows_none c.args.given.now c.args.terms.now c.args.reach.now c.requires.reach

pub bounds-reach-place : goal.bounds-reach-place
bounds-reach-place c =
    let facts = row_facts_at c.args.given.now c.args.rows.now c.loop-row.row-index (record { kind = Interval; fault = 0; backup = 0; primary = 0 }) c.requires.rows c.loop-row-test.true in
    omega (arith, facts.backup, c.from-place.ensures, c.loop-row.invariant.count)

pub sensing-requires-clause-fault : goal.sensing-requires-clause-fault
sensing-requires-clause-fault c = (row_facts_at c.args.given.now c.args.rows.now c.loop-row.row-index (record { kind = Interval; fault = 0; backup = 0; primary = 0 }) c.requires.rows c.loop-row-test.true).fault

pub sensing-requires-clause-relay : goal.sensing-requires-clause-relay
sensing-requires-clause-relay c = (row_facts_at c.args.given.now c.args.rows.now c.loop-row.row-index (record { kind = Interval; fault = 0; backup = 0; primary = 0 }) c.requires.rows c.loop-row-test.true).backup

pub bounds-reach-place-in-loop-row : goal.bounds-reach-place-in-loop-row
bounds-reach-place-in-loop-row c =
    let facts = row_facts_at c.args.given.now c.args.rows.now c.loop-row.row-index (record { kind = Interval; fault = 0; backup = 0; primary = 0 }) c.requires.rows c.loop-row-test.true in
    omega (arith, facts.backup, c.from-place.ensures, c.loop-row.invariant.count)

pub loop-row-preserved : goal.loop-row-preserved
loop-row-preserved c =
    let facts = row_facts_at c.args.given.now c.args.rows.now c.loop-row.row-index (record { kind = Interval; fault = 0; backup = 0; primary = 0 }) c.requires.rows c.loop-row-test.true in
    row_step c.args.given.now c.args.terms.now c.args.rows.now c.loop-row.row-index (record { kind = Interval; fault = 0; backup = 0; primary = 0 }) c.loop-row.reach c.from-place.result c.sensing.result c.loop-row-test.true c.from-place.ensures
    facts.backup c.loop-row.invariant c.sensing.ensures

pub returns : goal.returns
returns c = rows_all_used c.args.given.now c.args.terms.now c.args.rows.now c.loop-row.row-index c.loop-row.reach c.requires.terms c.requires.rows c.loop-row-test.false c.loop-row.invariant
