use Rattle.coord_io.proofs.Changes.{started_there, started_whole, started_part, unstarted_part}
use Rattle.coord_io.proofs.Outcomes.{always_on_err, err_as, ok_as}
use Rattle.coord_io.proofs.write.put_whole.Goals as goal

pub returns-in_err-start-clause-part : goal.returns-in_err-start-clause-part
returns-in_err-start-clause-part g c = always_on_err _ (unstarted_part _ _ c.in_err-start.ensures.unstarted)

pub append_whole-requires : goal.append_whole-requires
append_whole-requires g c = started_there _ _ c.in_ok-start.ensures.started

pub returns-clause-whole : goal.returns-clause-whole
returns-clause-whole g c = ok_as _ c.append_whole.ensures.added (started_whole _ _ c.in_ok-start.ensures.started)

pub returns-clause-part : goal.returns-clause-part
returns-clause-part g c = err_as _ c.append_whole.ensures.part (started_part _ _ c.in_ok-start.ensures.started)
