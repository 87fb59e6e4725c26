use Rattle.std.proofs.Common.{arith, ap, length}
use Rattle.std.proofs.lemmas.List.{length_push}
use Rattle.margin_rows.proofs.Listed.{term_facts_at}
use Rattle.margin_rows.proofs.Ran.{term_runs_more}
use Rattle.margin_rows.proofs.runs.term_runs.Goals as goal

pub run_of-requires-clause-fault : goal.run_of-requires-clause-fault
run_of-requires-clause-fault c = (term_facts_at c.args.given.now c.args.terms.now c.loop-term.term-index (record { fault = 0; relay = 0 }) c.requires.terms c.loop-term-test.true).fault

pub run_of-requires-clause-relay : goal.run_of-requires-clause-relay
run_of-requires-clause-relay c = (term_facts_at c.args.given.now c.args.terms.now c.loop-term.term-index (record { fault = 0; relay = 0 }) c.requires.terms c.loop-term-test.true).relay

pub loop-term-preserved : goal.loop-term-preserved
loop-term-preserved c = record {
  runs = c.in_ok-run_of.ensures.runs;
  count = omega (arith, ap (λ xs. length xs) c.in_ok-push.ensures.items, length_push c.loop-term.starts.items c.in_ok-run_of.field-0, c.loop-term.invariant.count);
  each = term_runs_more c.args.given.now c.args.terms.now c.loop-term.runs.times.items c.run_of.new.runs.times.items c.loop-term.starts.items c.push.new.self.items c.loop-term.term-index c.in_ok-run_of.field-0 (record { fault = 0; relay = 0 })
      c.loop-term-test.true c.loop-term.invariant.count c.in_ok-push.ensures.items c.in_ok-run_of.ensures.extends c.loop-term.invariant.each c.in_ok-run_of.ensures.run;
}
