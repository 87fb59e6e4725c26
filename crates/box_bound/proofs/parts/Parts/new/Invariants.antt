use Rattle.box_bound.proofs.PartLaws.{AreFirstParts}
use Rattle.box_bound.proofs.parts.Parts.new.Given as goal

abbrev pub invariant-loop-relay : goal.invariant-loop-relay
invariant-loop-relay l = record {
  first : AreFirstParts l.inst l.ranges l.relay l.leasts.items;
}
