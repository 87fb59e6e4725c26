use Rattle.std.proofs.Common.{refl, arith, ◌∙◌}
use Rattle.coord_io.proofs.Changes.{gained_there, gains_more}
use Rattle.coord_io.proofs.HandedOver.{handed_more, handed_none, handed_part}
use Rattle.coord_io.proofs.Outcomes.{always_on_err}
use Rattle.coord_io.proofs.write.append_whole.Goals as goal

pub loop-rest-init : goal.loop-rest-init
loop-rest-init g c = record { handed = handed_none _ _ _ c.requires; writes = omega arith; reads = refl }

pub append-requires : goal.append-requires
append-requires g c = gained_there _ _ c.loop-rest.invariant.handed.given

pub returns-in_err-count-clause-part : goal.returns-in_err-count-clause-part
returns-in_err-count-clause-part g c = always_on_err _ (handed_part (gains_more c.args.name.now) c.loop-rest.invariant.handed c.in_err-count.ensures.part)

pub loop-rest-preserved : goal.loop-rest-preserved
loop-rest-preserved g c = record {
  handed = handed_more (gains_more _) _ c.loop-rest.invariant.handed c.in_ok-count.ensures.added;
  writes = let sofar = c.loop-rest.invariant.writes in let call = c.in_ok-count.ensures.writes_counted in omega arith;
  reads = c.in_ok-count.ensures.reads_left ∙ c.loop-rest.invariant.reads;
}
