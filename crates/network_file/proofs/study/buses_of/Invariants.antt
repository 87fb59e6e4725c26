use Rattle.std.proofs.Common.{◌≡◌, [], take, fold, length, ◌*◌, ◌≤◌}
use Rattle.network_file.specs.Names.{with_ends}
use Rattle.network_file.proofs.study.buses_of.Given as goal

abbrev pub invariant-loop-line : goal.invariant-loop-line
invariant-loop-line l = record {
  so_far : l.buses.keys ≡ fold with_ends [] (take l.line-index l.lines);
  few : length l.buses.keys ≤ 2 * l.line-index;
}
