use Rattle.std.specs.Prelude.{◌≡◌, ◌≤◌, ◌++◌, length, vec_capacity}
use Rattle.coord_text.specs.Claims.{text_of}
use Rattle.coord_run.specs.Pieces.{LeavesRest}
use Rattle.coord_run.proofs.pieces.append_lines.Given as goal

abbrev pub invariant-loop-folder : goal.invariant-loop-folder
invariant-loop-folder g l = record {
  left : LeavesRest l.name (text_of l.initial.printer.left) (l.room.items ++ text_of l.printer.left) (g.F.Folder.state l.initial.folder) (g.F.Folder.state l.folder);
  few : length l.room.items ≤ 65536;
  room : 65536 ≤ vec_capacity l.room;
  writes : (g.F.Folder.state l.initial.folder).writes ≤ (g.F.Folder.state l.folder).writes;
  reads : (g.F.Folder.state l.folder).reads ≡ (g.F.Folder.state l.initial.folder).reads;
}

abbrev pub decreases-loop-folder : goal.decreases-loop-folder
decreases-loop-folder g l = length l.printer.left
