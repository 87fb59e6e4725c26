use Rattle.std.proofs.Common.{◌^◌, ◌<◌}
use Rattle.margin_rows.specs.Case.{term_at}
use Rattle.margin_rows.proofs.Widths.{IsWidest}
use Rattle.margin_rows.proofs.gap.widest.Given as goal

abbrev pub invariant-loop-step : goal.invariant-loop-step
invariant-loop-step l = record {
  widest : IsWidest l.inst (term_at l.inst l.term).fault (term_at l.inst l.term).relay l.low l.step l.greatest;
  small : l.greatest < 2 ^ 40;
}
