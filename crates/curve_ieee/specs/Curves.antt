-- Which curves of the model these are. IEEE C37.112: MI moderately, VI very, EI extremely inverse.
use Rattle.coord_model.specs.Enclosure.{Root}
use Rattle.coord_model.specs.Time.{Multiple}
use Rattle.coord_model.specs.declared.curve.CurveName.{CurveName}
use Rattle.coord_model.specs.declared.curve.CurveName.TheVariants.{IeeeMi, IeeeVi, IeeeEi}
use Rattle.root_interval.specs.Root.{low_end, high_end}
use Rattle.curve_ieee.specs.declared.curve.IeeeCurve.{IeeeCurve}
use Rattle.curve_ieee.specs.declared.curve.IeeeCurve.TheVariants.{MI, VI, EI}

-- the curve's name in the model
abbrev pub name_of : IeeeCurve → CurveName
name_of MI = IeeeMi
name_of VI = IeeeVi
name_of EI = IeeeEi

-- the ends that are taken for the fiftieth root of a multiple
abbrev pub root_of : Multiple → Root
root_of m = record { low = low_end m.num m.den; high = high_end m.num m.den }
