use Rattle.std.proofs.Common.{◌≡◌, ◌-◌, ◌≤◌}
use Rattle.cert_check.proofs.Pieces.{SoFar}
use Rattle.cert_check.proofs.checker.read_text.Given as goal

abbrev pub invariant-loop-count : goal.invariant-loop-count
invariant-loop-count g l = record {
  so_far : SoFar l.inst l.name (g.F.Folder.state l.initial.folder) (g.F.Folder.state l.folder) l.text l.place;
  writes : (g.F.Folder.state l.folder).writes ≡ (g.F.Folder.state l.initial.folder).writes;
  within : l.place ≤ 536870912;
}

abbrev pub decreases-loop-count : goal.decreases-loop-count
decreases-loop-count g l = 536870913 - l.place
