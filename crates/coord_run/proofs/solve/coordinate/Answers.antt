use Rattle.std.proofs.Common.{refl}
use Rattle.coord_run.proofs.GapLaws.{given_below}
use Rattle.coord_run.proofs.solve.coordinate.Goals as goal

pub returns-in-Ok-clause-comes : goal.returns-in-Ok-clause-comes
returns-in-Ok-clause-comes g c = record {
  fits = c.requires.fits;
  gap = c.gap_for.result;
  is_gap = c.gap_for.ensures.exact;
  enough = c.in-Ok.ensures.1;
  reached = c.in-Ok.ensures.0;
}

pub returns-in-Err-GapTooSmall-clause-stopped : goal.returns-in-Err-GapTooSmall-clause-stopped
returns-in-Err-GapTooSmall-clause-stopped g c =
    let refused = rw c.in-Err-GapTooSmall.field-0-is at c.in-Err-GapTooSmall.ensures in
    let case = c.args.inst.now in
    let given = c.in-Err-GapTooSmall.given in
    record {
      gap = given;
      least = c.in-Err-GapTooSmall.least;
      is_gap = given_below case c.args.asked.now.gap given c.in-Err-GapTooSmall.least (rw refused.0 c.gap_for.ensures.exact) refused.1 (rw refused.0 refused.2);
      is_least = refused.1;
      below = rw refused.0 refused.2;
      told = refl;
    }
