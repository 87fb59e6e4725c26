-- The ends are those of the definition, and keep what its ends keep.
use Rattle.std.proofs.Common.{◌≡◌, ◌≤◌, ◌*◌, ℕ, refl, subst}
use Rattle.coord_model.specs.CustomForm.{IsInRange}
use Rattle.coord_model.specs.CustomRoot.{IsHighEnd, IsLowEnd, high_power, last, low_power, power_down}
use Rattle.coord_model.specs.Enclosure.{IsEnclosable}
use Rattle.coord_model.specs.Time.{Multiple}
use Rattle.coord_model.specs.declared.curve.CurveForm.{CurveForm}
use Rattle.curve_custom.specs.Ends.{high_end, low_end}
use Rattle.curve_custom.specs.EndLaws.{high_end-only, low_end-only}
use Rattle.coord_model.proofs.CustomRoots.{IsRootOf, ends_are, high_power-within}
use Rattle.curve_custom.proofs.root.root_ends.Goals as goal

pub high_end-high-requires : goal.high_end-high-requires
high_end-high-requires c =
    let m : Multiple = record { num = c.args.num; den = c.args.den } in
    record { power = (c.high_power.ensures.small, rw (c.high_power.ensures.exact) (high_power-within c.args.form m c.requires.range c.requires.root c.requires.exponent c.requires.multiple)) }

-- the ends that are found
found : (form : CurveForm) (m : Multiple) (l h low high : ℕ) → IsInRange form → 2 ≤ form.h → 2 * form.e ≤ 3 * form.h → IsEnclosable m
    → l ≡ low_power form m → h ≡ high_power form m → IsLowEnd form.h l low → IsHighEnd form.h h high → IsRootOf form m low high
found form m l h low high range root exponent is l_is h_is low_end high_end =
    ends_are form m low high range root exponent is (subst (λ k. IsLowEnd form.h k low) l_is low_end) (subst (λ k. IsHighEnd form.h k high) h_is high_end)

pub returns-clause-exact : goal.returns-clause-exact
returns-clause-exact c =
    let m : Multiple = record { num = c.args.num; den = c.args.den } in
    let low_is = low_end-only c.args.form.h c.low_power.result c.low_end-low.result c.low_power.ensures.above c.low_end-low.ensures in
    let within : c.high_power.result ≤ power_down last c.args.form.h = rw (c.high_power.ensures.exact) (high_power-within c.args.form m c.requires.range c.requires.root c.requires.exponent c.requires.multiple) in
    let high_is = high_end-only c.args.form.h c.high_power.result c.high_end-high.result within c.high_end-high.ensures in
    rw (low_is, high_is, c.low_power.ensures.exact, c.high_power.ensures.exact) refl

pub returns-clause-ordered : goal.returns-clause-ordered
returns-clause-ordered c =
    (found c.args.form (record { num = c.args.num; den = c.args.den }) _ _ _ _ c.requires.range c.requires.root c.requires.exponent c.requires.multiple
    c.low_power.ensures.exact c.high_power.ensures.exact c.low_end-low.ensures c.high_end-high.ensures).ordered

pub returns-clause-above_one : goal.returns-clause-above_one
returns-clause-above_one c =
    (found c.args.form (record { num = c.args.num; den = c.args.den }) _ _ _ _ c.requires.range c.requires.root c.requires.exponent c.requires.multiple
    c.low_power.ensures.exact c.high_power.ensures.exact c.low_end-low.ensures c.high_end-high.ensures).above_one
