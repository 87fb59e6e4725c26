use Rattle.coord_io.proofs.QuietPlaces.{Reserved}
use Rattle.coord_io.proofs.quiet_file.reserve_rooms.Given as goal

abbrev pub invariant-loop-file : goal.invariant-loop-file
invariant-loop-file l = Reserved l.fn.files l.files l.file-index
