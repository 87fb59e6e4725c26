use Rattle.std.proofs.Common.{◌≡◌, ◌≤◌, ◌*◌, take}
use Rattle.std.specs.List.{sum_by}
use Rattle.coord_model.specs.Choice.{choice_data}
use Rattle.margin_rows.specs.Case.{terms_in}
use Rattle.margin_rows.specs.Price.{least_part, greatest_part}
use Rattle.margin_rows.proofs.price.sums.Given as goal

abbrev pub invariant-loop-term : goal.invariant-loop-term
invariant-loop-term l = record {
  least_sum : l.least ≡ sum_by (least_part l.inst (choice_data l.choice)) (take l.term (terms_in l.inst));
  greatest_sum : l.greatest ≡ sum_by (greatest_part l.inst (choice_data l.choice)) (take l.term (terms_in l.inst));
  least_few : l.least ≤ l.term * 16500000000000000000;
  greatest_few : l.greatest ≤ l.term * 16500000000000000000;
}
