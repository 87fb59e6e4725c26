use Rattle.std.proofs.Common.{arith}
use Rattle.coord_io.proofs.HandedOver.{gained_more, handed_more, handed_part}
use Rattle.coord_io.proofs.Outcomes.{always_on_err}
use Rattle.coord_io.proofs.write.write_whole.Goals as goal

pub returns-in_err-count-clause-part : goal.returns-in_err-count-clause-part
returns-in_err-count-clause-part g c = always_on_err _ (handed_part gained_more c.loop-rest.invariant.handed c.in_err-count.ensures.part)

pub loop-rest-preserved : goal.loop-rest-preserved
loop-rest-preserved g c = record {
  handed = handed_more gained_more _ c.loop-rest.invariant.handed c.in_ok-count.ensures.added;
  faults = let sofar = c.loop-rest.invariant.faults in let call = c.in_ok-count.ensures.counted in omega arith;
}
