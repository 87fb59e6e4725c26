-- What the two ends promise follows from what they are.
use Rattle.std.proofs.Common.{arith}
use Rattle.root_interval.proofs.RootLaws.{encloses_low, encloses_high, ordered, narrow, above_one}
use Rattle.root_interval.proofs.RootEnds.{low_end-only, high_end-only}
use Rattle.root_interval.proofs.root.root50.Goals as goal

pub returns-clause-exact : goal.returns-clause-exact
returns-clause-exact c =
    let low = low_end-only _ _ _ (omega arith) c.low_end.ensures in
    let high = high_end-only _ _ _ (omega arith) c.high_end.ensures in
    cc

pub returns-clause-encloses_low : goal.returns-clause-encloses_low
returns-clause-encloses_low c = encloses_low _ _ _ c.low_end.ensures

pub returns-clause-encloses_high : goal.returns-clause-encloses_high
returns-clause-encloses_high c = encloses_high _ _ _ c.high_end.ensures

pub returns-clause-ordered : goal.returns-clause-ordered
returns-clause-ordered c = ordered _ _ _ _ c.requires.den_positive c.low_end.ensures c.high_end.ensures

pub returns-clause-narrow : goal.returns-clause-narrow
returns-clause-narrow c = omega (arith, narrow _ _ _ _ c.low_end.ensures c.high_end.ensures)

pub returns-clause-above_one : goal.returns-clause-above_one
returns-clause-above_one c = above_one _ _ _ c.requires.least c.low_end.ensures
