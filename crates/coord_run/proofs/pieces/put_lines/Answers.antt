use Rattle.coord_io.proofs.Changes.{started_part, started_there, started_whole, unstarted_part}
use Rattle.coord_io.proofs.Outcomes.{always_on_err, err_as, ok_as}
use Rattle.coord_run.proofs.pieces.put_lines.Goals as goal

pub returns-in_err-start-clause-part : goal.returns-in_err-start-clause-part
returns-in_err-start-clause-part g c = always_on_err _ (unstarted_part _ _ c.in_err-start.ensures.unstarted)

pub append_lines-requires-clause-there : goal.append_lines-requires-clause-there
append_lines-requires-clause-there g c = started_there _ _ c.in_ok-start.ensures.started

pub returns-clause-whole : goal.returns-clause-whole
returns-clause-whole g c = ok_as _ c.append_lines.ensures.added (started_whole _ _ c.in_ok-start.ensures.started)

pub returns-clause-part : goal.returns-clause-part
returns-clause-part g c = err_as _ c.append_lines.ensures.part (started_part _ _ c.in_ok-start.ensures.started)
