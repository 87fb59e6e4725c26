-- What the curves keep at every multiple.
use Rattle.std.proofs.Common.{◌≡◌, arith, false, refl}
use Rattle.coord_model.specs.Enclosure.{enclosure, IsAtMost, IsEnclosable, IsNotAbove}
use Rattle.coord_model.specs.Form.{form_of, is_custom}
use Rattle.coord_model.specs.Time.{Multiple}
use Rattle.coord_model.proofs.CurveEnds.{Keeps}
use Rattle.coord_model.proofs.NamedCurves.{IsRootOf, enclosure_keeps, enclosure_falls}
use Rattle.root_interval.proofs.RootEnds.{is_low_end, is_high_end, never_falls}
use Rattle.root_interval.proofs.RootLaws.{above_one, encloses_low, encloses_high, narrow, ordered}
use Rattle.curve_ieee.specs.Curves.{name_of, root_of}
use Rattle.curve_ieee.specs.declared.curve.IeeeCurve.{IeeeCurve}
use Rattle.curve_ieee.specs.declared.curve.IeeeCurve.TheVariants.{MI, VI, EI}

-- the ends lie on the two sides of the root, near to it
is_root : (m : Multiple) → IsEnclosable m → IsRootOf m (root_of m)
is_root m h =
    let low = is_low_end m.num m.den (omega (arith, h.above_one)) in
    let high = is_high_end m.num m.den h.at_most_thirty in
    record {
      above_one = above_one _ _ _ h.above_one low;
      at_most = omega (arith, high.at_least.in_range);
      ordered = ordered _ _ _ _ h.some low high;
      narrow = omega (arith, narrow _ _ _ _ low high);
      low_power = encloses_low _ _ _ low;
      high_power = encloses_high _ _ _ high;
    }

-- none of them is a custom curve
named : (curve : IeeeCurve) → is_custom (name_of curve) ≡ false
named MI = refl
named VI = refl
named EI = refl

-- each enclosure is under and over, narrow, ordered and bounded
pub keeps : (curve : IeeeCurve) (m : Multiple) → IsEnclosable m
    → Keeps false (form_of (name_of curve)) m (enclosure false (form_of (name_of curve)) (root_of m) m)
keeps curve m h = enclosure_keeps (name_of curve) m (root_of m) (named curve) h (is_root m h)

-- neither end rises as the multiple grows
pub falls : (curve : IeeeCurve) (m m' : Multiple) → IsEnclosable m → IsEnclosable m' → IsAtMost m m'
    → IsNotAbove (enclosure false (form_of (name_of curve)) (root_of m') m') (enclosure false (form_of (name_of curve)) (root_of m) m)
falls curve m m' h h' grows =
    enclosure_falls (name_of curve) m m' (root_of m) (root_of m') (named curve) h h' (is_root m h) (is_root m' h')
    (never_falls.low m.num m.den m'.num m'.den h.some (omega (arith, h.above_one)) grows)
    (never_falls.high m.num m.den m'.num m'.den h'.some h'.at_most_thirty grows)
    grows
