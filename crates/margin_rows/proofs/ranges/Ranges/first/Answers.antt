use Rattle.margin_rows.proofs.Spanned.{first_box_fits, first_box_only}
use Rattle.margin_rows.proofs.ranges.Ranges.first.Goals as goal

pub returns-clause-exact : goal.returns-clause-exact
returns-clause-exact c = record {
  pickups = c.in_ok-first_pickups.ensures.count;
  dials = c.in_ok-first_dials.ensures.count;
  no_pickup = c.in_ok-first_pickups.ensures.none;
  no_dial = c.in_ok-first_dials.ensures.none;
  pickup = c.in_ok-first_pickups.ensures.each;
  dial = c.in_ok-first_dials.ensures.each;
}

pub returns-clause-only : goal.returns-clause-only
returns-clause-only c = λ other is. first_box_only c.args.inst.now other _ is (returns-clause-exact c)

pub returns-clause-fits : goal.returns-clause-fits
returns-clause-fits c = first_box_fits c.args.inst.now _ (returns-clause-exact c)
