use Rattle.std.proofs.Common.{get_or}
use Rattle.margin_rows.proofs.Listed.{IsTermOf, term_facts_at}
use Rattle.margin_rows.proofs.Summed.{span_read, run_read, sums_small}
use Rattle.margin_rows.proofs.sums.add_terms.Goals as goal
use Rattle.margin_rows.proofs.sums.add_terms.Goals.{After-from}

facts : (c : After-from) → IsTermOf c.args.given.now (get_or c.args.terms.now c.loop-number.number (record { fault = 0; relay = 0 }))
facts c = term_facts_at c.args.given.now c.args.terms.now c.loop-number.number (record { fault = 0; relay = 0 }) c.requires.terms c.loop-number-test.true

pub bounds-spans-from : goal.bounds-spans-from
bounds-spans-from c = (span_read c.args.given.now c.args.spans.now _ c.from.result c.requires.spans (facts (goal.at.bounds-spans-from c).After-from).relay c.from.ensures).0

pub add_term-requires-clause-span : goal.add_term-requires-clause-span
add_term-requires-clause-span c = (span_read c.args.given.now c.args.spans.now _ c.from.result c.requires.spans (facts (goal.at.add_term-requires-clause-span c).After-from).relay c.from.ensures).1

pub add_term-requires-clause-run : goal.add_term-requires-clause-run
add_term-requires-clause-run c =
    run_read c.args.given.now c.args.times.now c.args.terms.now c.args.starts.now c.loop-number.number (record { fault = 0; relay = 0 }) c.requires.terms c.loop-number-test.true c.requires.starts

pub add_term-requires-clause-small : goal.add_term-requires-clause-small
add_term-requires-clause-small c step first =
    sums_small c.args.given.now c.loop-number.number (get_or c.args.terms.now c.loop-number.number (record { fault = 0; relay = 0 })).relay step c.loop-number.sums c.requires.fits c.loop-number.invariant first
