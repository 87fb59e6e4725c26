use Rattle.std.proofs.Common.{arith, ap, length}
use Rattle.std.proofs.lemmas.List.{length_push}
use Rattle.coord_model.specs.declared.study.RowKind.TheVariants.{Interval}
use Rattle.margin_rows.proofs.Ran.{row_runs_more, extends_again}
use Rattle.margin_rows.proofs.runs.row_runs.Goals as goal

pub loop-row-preserved : goal.loop-row-preserved
loop-row-preserved c = record {
  runs = c.in_ok-runs_of.ensures.runs;
  extends = extends_again c.args.runs.now.times.items c.loop-row.runs.times.items c.runs_of.new.runs.times.items c.loop-row.invariant.extends c.in_ok-runs_of.ensures.extends;
  count = omega (arith, ap (λ xs. length xs) c.in_ok-push.ensures.items, length_push c.loop-row.starts.items c.in_ok-runs_of.field-0, c.loop-row.invariant.count);
  each = row_runs_more c.args.given.now c.args.rows.now c.loop-row.runs.times.items c.runs_of.new.runs.times.items c.loop-row.starts.items c.push.new.self.items c.loop-row.row-index c.in_ok-runs_of.field-0 (record { kind = Interval; fault = 0; backup = 0; primary = 0 })
      c.loop-row-test.true c.loop-row.invariant.count c.in_ok-push.ensures.items c.in_ok-runs_of.ensures.extends c.loop-row.invariant.each (c.in_ok-runs_of.ensures.backup, c.in_ok-runs_of.ensures.primary);
}
