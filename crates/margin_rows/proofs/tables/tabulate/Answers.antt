use Rattle.margin_rows.proofs.Ran.{term_runs_grown}
use Rattle.margin_rows.proofs.tables.tabulate.Goals as goal

pub returns-clause-exact : goal.returns-clause-exact
returns-clause-exact c = record {
  rows = c.in_ok-rows.ensures.rows;
  demands = c.in_ok-demands.ensures;
  terms = c.in_ok-terms.ensures;
  span_count = c.in_ok-spans.ensures.count;
  spans = c.in_ok-spans.ensures.each;
  term_runs = term_runs_grown c.args.given.now _ c.row_runs.new.runs.times.items c.in_ok-term_runs.term_runs.items c.in_ok-row_runs.ensures.extends c.in_ok-term_runs.ensures.terms;
  row_runs = c.in_ok-row_runs.ensures.rows;
  sums = c.in_ok-sums.ensures;
}
