-- That the ends as functions are the best ends, and grow with the power.
use Rattle.std.proofs.Common.{ℕ, ◌+◌, ◌-◌, ◌*◌, ◌≤◌, ◌≡◌, Bool, nat_le, arith, inl, inr, subst}
use Rattle.std.proofs.Math.Nat.{le_antisymm}
use Rattle.std.proofs.lemmas.Bool.{leb-true, le-leb}
use Rattle.coord_model.proofs.CustomRoots.{IsRootOf, ends_are, high_power-within, low_power-above, one_is_at_most}
use Rattle.coord_model.specs.CustomForm.{IsExponent, IsInRange}
use Rattle.coord_model.specs.CustomRoot.{IsAtLeastRoot, IsAtMostRoot, IsHighEnd, IsLowEnd, high_power, last, low_power, one, power_down, power_up}
use Rattle.coord_model.specs.Enclosure.{IsEnclosable}
use Rattle.coord_model.specs.Time.{Multiple}
use Rattle.coord_model.specs.declared.curve.CurveForm.{CurveForm}
use Rattle.root_interval.proofs.RootEnds.{is_greatest}
use Rattle.curve_custom.specs.Ends.{RootsAreBest, high_end, low_end}

-- ---- the low end as a function

abbrev above_one_passes : ℕ → ℕ → ℕ → Bool
above_one_passes h power k = nat_le (power_up (one + k) h) power

low_end-at : (h power k : ℕ) → k ≤ last - one → power_up (one + k) h ≤ power → one + k ≤ low_end h power
unfolding low_end
low_end-at h power k in_range meets =
    omega (arith, (is_greatest (above_one_passes h power) (last - one)).above k in_range (le-leb _ _ meets))

low_end-above : (h power r : ℕ) → IsAtMostRoot h power r → r ≤ low_end h power
low_end-above h power r is =
    let from = is.from in
    let to = is.to in
    let same : one + (r - one) ≡ r = omega arith in
    subst (λ x. power_up x h ≤ power → x ≤ low_end h power) same (low_end-at h power (r - one) (omega arith)) is.meets

pub is_low_end : (h power : ℕ) → one ≤ power → IsLowEnd h power (low_end h power)
unfolding low_end
is_low_end h power above =
    let top = is_greatest (above_one_passes h power) (last - one) in
    let start = one_is_at_most h power above in
    record {
      at_most = record { from = omega arith; to = omega (arith, top.within); meets = leb-true _ _ (top.passing (le-leb _ _ start.meets)) };
      greatest = low_end-above h power;
    }

pub low_end-only : (h power low : ℕ) → one ≤ power → IsLowEnd h power low → low ≡ low_end h power
low_end-only h power low above is =
    le_antisymm (low_end-above h power low is.at_most) (is.greatest _ (is_low_end h power above).at_most)

pub low_end-grows : (h power power' : ℕ) → one ≤ power → power ≤ power' → low_end h power ≤ low_end h power'
low_end-grows h power power' above grows =
    let is = (is_low_end h power above).at_most in
    low_end-above h power' _ (record { from = is.from; to = is.to; meets = omega (arith, is.meets, grows) })

-- ---- the high end as a function

abbrev below_last_passes : ℕ → ℕ → ℕ → Bool
below_last_passes h power k = nat_le power (power_down (last - k) h)

high_end-at : (h power k : ℕ) → k ≤ last - one → power ≤ power_down (last - k) h → high_end h power ≤ last - k
unfolding high_end
high_end-at h power k in_range meets =
    omega (arith, (is_greatest (below_last_passes h power) (last - one)).above k in_range (le-leb _ _ meets))

high_end-below : (h power r : ℕ) → IsAtLeastRoot h power r → high_end h power ≤ r
high_end-below h power r is =
    let from = is.from in
    let to = is.to in
    let same : last - (last - r) ≡ r = omega arith in
    subst (λ x. power ≤ power_down x h → high_end h power ≤ x) same (high_end-at h power (last - r) (omega arith)) is.meets

pub is_high_end : (h power : ℕ) → power ≤ power_down last h → IsHighEnd h power (high_end h power)
unfolding high_end
is_high_end h power within =
    let top = is_greatest (below_last_passes h power) (last - one) in
    record {
      at_least = record { from = omega (arith, top.within); to = omega arith; meets = leb-true _ _ (top.passing (le-leb _ _ within)) };
      least = high_end-below h power;
    }

pub high_end-only : (h power high : ℕ) → power ≤ power_down last h → IsHighEnd h power high → high ≡ high_end h power
high_end-only h power high within is =
    le_antisymm (is.least _ (is_high_end h power within).at_least) (high_end-below h power high is.at_least)

pub high_end-grows : (h power power' : ℕ) → power' ≤ power_down last h → power ≤ power' → high_end h power ≤ high_end h power'
high_end-grows h power power' within grows =
    let is = (is_high_end h power' within).at_least in
    high_end-below h power _ (record { from = is.from; to = is.to; meets = omega (arith, is.meets, grows) })

-- the ends as functions
pub is_root : (form : CurveForm) (m : Multiple) → IsInRange form → 2 ≤ form.h → 2 * form.e ≤ 3 * form.h → IsEnclosable m
    → IsRootOf form m (low_end form.h (low_power form m)) (high_end form.h (high_power form m))
is_root form m range root exponent is =
    ends_are form m _ _ range root exponent is
    (is_low_end form.h (low_power form m) (omega (arith, low_power-above form m range is)))
    (is_high_end form.h (high_power form m) (high_power-within form m range root exponent is))

-- the exponent of a root is at most 3/2
root_exponent : (form : CurveForm) → IsExponent form → 2 ≤ form.h → 2 * form.e ≤ 3 * form.h
root_exponent form exponent root = elim exponent [ inl whole ↦ absurd (omega (arith, whole.0, root)) | inr broken ↦ broken.1 ]

pub roots_best : RootsAreBest
roots_best form m range exponent root is =
    let low_exponent = root_exponent form exponent root in
    record {
      low = is_low_end form.h (low_power form m) (omega (arith, low_power-above form m range is));
      high = is_high_end form.h (high_power form m) (high_power-within form m range root low_exponent is);
      near = (is_root form m range root low_exponent is).near;
    }
