use Rattle.std.proofs.Common.{ℕ, ◌-◌, ◌/◌, arith, inl, inr}
use Rattle.std.proofs.lemmas.Bool.{cases_lt}
use Rattle.box_range.proofs.Meets.{can_fall}
use Rattle.box_range.proofs.Places.{listed}
use Rattle.box_range.proofs.ends.highest.Goals as goal

pub search-preserved : goal.search-preserved
search-preserved c =
    let case = c.args.inst.now in
    let box = c.args.ranges.now in
    let row = c.args.at.row in
    let middle : ℕ = c.search.high - (c.search.high - c.search.low) / 2 in
    record {
      from = omega arith;
      ordered = omega arith;
      to = omega arith;
      met = c.search.invariant.met;
      unmet = λ step above to m. elim (cases_lt c.search.high step) [
        | inl higher ↦ c.search.invariant.unmet step higher to m
        | inr lower ↦ let absurdly = rw c.if-can_meet-2.false at (c.can_meet-in-search.ensures.1 (can_fall case box row c.requires.filled (listed case c.args.at.number row c.requires.place) c.requires.asks c.args.kind step middle
            (omega (arith, above)) (omega (arith, c.requires.low.from)) m)) in cc
      ];
    }

pub returns-clause-unmet_above : goal.returns-clause-unmet_above
returns-clause-unmet_above c = λ step above to m. c.search.invariant.unmet step (omega (arith, above)) to m
