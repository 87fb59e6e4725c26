use Rattle.std.proofs.Common.{ℕ, ◌+◌, ◌-◌, ◌/◌, arith, inl, inr}
use Rattle.std.proofs.lemmas.Bool.{cases_lt}
use Rattle.box_range.proofs.Meets.{can_rise}
use Rattle.box_range.proofs.Places.{listed}
use Rattle.box_range.proofs.ends.lowest.Goals as goal

pub search-preserved : goal.search-preserved
search-preserved c =
    let case = c.args.inst.now in
    let box = c.args.ranges.now in
    let row = c.args.at.row in
    let middle : ℕ = c.search.low + (c.search.high - c.search.low) / 2 in
    record {
      from = omega arith;
      ordered = omega arith;
      to = omega arith;
      met = c.search.invariant.met;
      unmet = λ step from below m. elim (cases_lt step c.search.low) [
        | inl lower ↦ c.search.invariant.unmet step from lower m
        | inr higher ↦ let absurdly = rw c.if-can_meet-2.false at (c.can_meet-in-search.ensures.1 (can_rise case box row c.requires.filled (listed case c.args.at.number row c.requires.place) c.requires.asks c.args.kind step middle
            (omega (arith, below)) (omega (arith, c.requires.high.before)) m)) in cc
      ];
    }

pub returns-clause-unmet_below : goal.returns-clause-unmet_below
returns-clause-unmet_below c = λ step from below m. c.search.invariant.unmet step from (omega (arith, below)) m
