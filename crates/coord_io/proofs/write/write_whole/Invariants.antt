use Rattle.std.proofs.Common.{◌≤◌, length}
use Rattle.coord_io.specs.Written.{Gained}
use Rattle.coord_io.proofs.HandedOver.{Handed}
use Rattle.coord_io.proofs.write.write_whole.Given as goal

abbrev pub invariant-loop-rest : goal.invariant-loop-rest
invariant-loop-rest g l = record {
  handed : Handed Gained (g.K.Sink.state l.initial.out).written (g.K.Sink.state l.out).written l.bytes l.rest;
  faults : (g.K.Sink.state l.initial.out).faults ≤ (g.K.Sink.state l.out).faults;
}

abbrev pub decreases-loop-rest : goal.decreases-loop-rest
decreases-loop-rest g l = length l.rest
