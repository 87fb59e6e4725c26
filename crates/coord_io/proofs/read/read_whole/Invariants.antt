use Rattle.std.proofs.Common.{◌≡◌, ◌+◌, ◌-◌, ◌≤◌, vec_len}
use Rattle.coord_io.proofs.Readings.{Reading}
use Rattle.coord_io.proofs.read.read_whole.Given as goal

abbrev pub invariant-loop-read : goal.invariant-loop-read
invariant-loop-read g l = record {
  reading : Reading l.name (g.F.Folder.state l.initial.folder) (g.F.Folder.state l.folder) l.read.items;
  writes : (g.F.Folder.state l.folder).writes ≡ (g.F.Folder.state l.initial.folder).writes;
  within : vec_len l.read ≤ l.limit;
}

abbrev pub decreases-loop-read : goal.decreases-loop-read
decreases-loop-read g l = l.limit + 1 - vec_len l.read
