use Rattle.box_bound.proofs.PartLaws.{AreMended}
use Rattle.box_bound.proofs.parts.mend.Given as goal

abbrev pub invariant-loop-relay : goal.invariant-loop-relay
invariant-loop-relay l = record {
  mended : AreMended l.inst l.before l.after l.relay l.leasts;
}
