use Rattle.std.proofs.Common.{◌*◌, ◌≤◌, take}
use Rattle.margin_rows.specs.Case.{terms_in}
use Rattle.margin_rows.specs.Gap.{AddsUpTo}
use Rattle.margin_rows.proofs.gap.width_sum.Given as goal

abbrev pub invariant-loop-term : goal.invariant-loop-term
invariant-loop-term l = record {
  sum : AddsUpTo l.inst (take l.term (terms_in l.inst)) l.sum;
  few : l.sum ≤ l.term * 16500000000000000000;
}
