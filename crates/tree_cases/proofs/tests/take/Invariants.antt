use Rattle.std.proofs.Common.{◌≡◌, All, false}
use Rattle.margin_rows.specs.Box.{FitsBox}
use Rattle.tree_cases.proofs.tests.take.Given as goal

abbrev pub invariant-loop-node : goal.invariant-loop-node
invariant-loop-node l = record { going : l.walk.refused ≡ false; fits : All (FitsBox l.inst) l.walk.due }
