use Rattle.std.proofs.Common.{◌≡◌, ◌≤◌, length}
use Rattle.coord_io.specs.Files.{Gains}
use Rattle.coord_io.proofs.HandedOver.{Handed}
use Rattle.coord_io.proofs.write.append_whole.Given as goal

abbrev pub invariant-loop-rest : goal.invariant-loop-rest
invariant-loop-rest g l = record {
  handed : Handed (Gains l.name) (g.F.Folder.state l.initial.folder).files (g.F.Folder.state l.folder).files l.bytes l.rest;
  writes : (g.F.Folder.state l.initial.folder).writes ≤ (g.F.Folder.state l.folder).writes;
  reads : (g.F.Folder.state l.folder).reads ≡ (g.F.Folder.state l.initial.folder).reads;
}

abbrev pub decreases-loop-rest : goal.decreases-loop-rest
decreases-loop-rest g l = length l.rest
