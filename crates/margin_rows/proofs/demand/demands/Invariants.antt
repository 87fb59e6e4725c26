use Rattle.std.proofs.Common.{◌≡◌, map, take}
use Rattle.margin_rows.specs.Demands.{demand_of}
use Rattle.margin_rows.proofs.demand.demands.Given as goal

abbrev pub invariant-loop-row : goal.invariant-loop-row
invariant-loop-row l = l.demands.items ≡ map (demand_of l.given.study) (take l.row-index l.rows)
