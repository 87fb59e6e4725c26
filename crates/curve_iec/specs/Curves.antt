-- Which curves of the model these are. IEC 60255-151: A inverse, B very inverse, C extremely inverse.
use Rattle.coord_model.specs.Enclosure.{Root}
use Rattle.coord_model.specs.Time.{Multiple}
use Rattle.coord_model.specs.declared.curve.CurveName.{CurveName}
use Rattle.coord_model.specs.declared.curve.CurveName.TheVariants.{IecA, IecB, IecC}
use Rattle.root_interval.specs.Root.{low_end, high_end}
use Rattle.curve_iec.specs.declared.curve.IecCurve.{IecCurve}
use Rattle.curve_iec.specs.declared.curve.IecCurve.TheVariants.{A, B, C}

-- the curve's name in the model
abbrev pub name_of : IecCurve → CurveName
name_of A = IecA
name_of B = IecB
name_of C = IecC

-- the ends that are taken for the fiftieth root of a multiple
abbrev pub root_of : Multiple → Root
root_of m = record { low = low_end m.num m.den; high = high_end m.num m.den }
