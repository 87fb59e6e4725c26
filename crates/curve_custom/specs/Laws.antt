-- What a curve of its own constants keeps at every multiple.
use Rattle.std.specs.Prelude.{true}
use Rattle.std.proofs.Common.{ℕ, Bool, if◌then◌else◌, ◌+◌, ◌-◌, ◌*◌, ◌/◌, ◌^◌, ◌<◌, ◌≤◌, ◌≡◌, arith, ap, inl, inr, lit≤, subst, sym}
use Rattle.std.proofs.Math.Nat.{le_of_mul-le-mul_right, mul-le-mul_left, mul-le-mul_right, one-le-pow, pow-le-pow_left, pow-le-pow_right, pow-lt-pow_left}
use Rattle.std.proofs.lemmas.Bool.{eq-eqb, ne_eqb}
use Rattle.std.proofs.lemmas.Nat.{le-div, mul-pow}
use Rattle.std.specs.Int.{div_ceil}
use Rattle.coord_model.proofs.CurveEnds.{HasPower, Keeps, ends_fall, ends_ordered, exact_ends_narrow, lower_is_under, lower_some, upper_is_over}
use Rattle.coord_model.proofs.NamedCurves.{pow_one}
use Rattle.coord_model.proofs.Quotients.{ceil_covers, ceil_least, floor_near, floor_within}
use Rattle.coord_model.specs.CustomForm.{IsCustomForm, IsExponent, IsInRange, IsSmall, lowest}
use Rattle.coord_model.specs.CustomRoot.{high_power, low_power, one}
use Rattle.coord_model.specs.Enclosure.{constant_ns, ends_between, root_enclosure, root_width, whole_enclosure, width_of, IsAtMost, IsEnclosable, IsNotAbove}
use Rattle.coord_model.specs.Time.{Multiple}
use Rattle.coord_model.specs.declared.curve.CurveForm.{CurveForm}
use Rattle.coord_model.proofs.CustomPowers.{power_down-le, power_up-le}
use Rattle.coord_model.proofs.CustomRoots.{IsRootOf, bases, high_base, high_power-within, low_base, low_power-above}
use Rattle.curve_custom.specs.EndLaws.{high_end-grows, is_low_end, is_root, low_end-grows, low_end-only}
use Rattle.curve_custom.specs.Ends.{custom_enclosure, root_of}

-- ---- which enclosure it is

whole_is : (form : CurveForm) (m : Multiple) → form.h ≡ 1 → custom_enclosure form m ≡ whole_enclosure form m
whole_is form m whole =
    ap (λ (b : Bool). if b then whole_enclosure form m else root_enclosure true form (root_of form m)) (eq-eqb form.h 1 whole)

root_is : (form : CurveForm) (m : Multiple) → 2 ≤ form.h → custom_enclosure form m ≡ root_enclosure true form (root_of form m)
root_is form m root =
    ap (λ (b : Bool). if b then whole_enclosure form m else root_enclosure true form (root_of form m)) (ne_eqb form.h 1 (λ same. omega (arith, root, same)))

-- ---- where the powers lie

whole_power : (form : CurveForm) (m : Multiple) → IsInRange form → form.h ≡ 1 → IsEnclosable m → HasPower form m (m.den ^ form.e) (m.num ^ form.e) (m.num ^ form.e)
whole_power form m range whole is = record {
  some_unit = one-le-pow form.e m.den is.some;
  above_one = pow-lt-pow_left (omega (arith, is.above_one, is.some)) (λ none. omega (arith, range.some_e, none));
  ordered = omega arith;
  low_power = rw (whole, pow_one (m.num ^ form.e), pow_one (m.den ^ form.e)) (omega arith);
  high_power = rw (whole, pow_one (m.num ^ form.e), pow_one (m.den ^ form.e)) (omega arith);
}

root_power : (form : CurveForm) (m : Multiple) (low high : ℕ) → IsRootOf form m low high → HasPower form m one low high
root_power form m low high is = record {
  some_unit = omega arith;
  above_one = omega (arith, is.above_one);
  ordered = is.ordered;
  low_power = is.below;
  high_power = is.above;
}

-- up to the third power a multiple of at most thirty is below 100,000
whole_small : (form : CurveForm) (m : Multiple) → form.e ≤ 3 → IsEnclosable m → m.num ^ form.e ≤ 100000 * m.den ^ form.e
whole_small form m few is =
    let grown : m.num ^ form.e ≤ (30 * m.den) ^ form.e = pow-le-pow_left is.at_most_thirty form.e in
    let apart : (30 * m.den) ^ form.e ≡ 30 ^ form.e * m.den ^ form.e = mul-pow 30 m.den form.e in
    let small : 30 ^ form.e ≤ 30 ^ 3 = pow-le-pow_right {n = 30} (omega arith) few in
    omega (arith, grown, apart, mul-le-mul_right (m.den ^ form.e) small)

-- ---- the fall

-- the quotients grow with the multiple
floor_grows : (m m' : Multiple) → IsEnclosable m → IsEnclosable m' → IsAtMost m m' → low_base m ≤ low_base m'
floor_grows m m' is is' grows =
    le-div (low_base m) (m'.num * one) m'.den is'.some
    (le_of_mul-le-mul_right {k = m.den} (omega (arith, mul-le-mul_right m'.den (bases m is).within, mul-le-mul_right one grows)) is.some)

ceil_grows : (m m' : Multiple) → IsEnclosable m → IsEnclosable m' → IsAtMost m m' → high_base m ≤ high_base m'
ceil_grows m m' is is' grows =
    ceil_least (m.num * one) m.den (high_base m') is.some
    (le_of_mul-le-mul_right {k = m'.den} (omega (arith, mul-le-mul_right m.den (bases m' is').covers, mul-le-mul_right one grows)) is'.some)

whole_falls : (form : CurveForm) (m m' : Multiple) → IsInRange form → form.h ≡ 1 → IsEnclosable m → IsEnclosable m' → IsAtMost m m'
    → IsNotAbove (whole_enclosure form m') (whole_enclosure form m)
whole_falls form m m' range whole is is' grows =
    let powers : m.num ^ form.e * m'.den ^ form.e ≤ m'.num ^ form.e * m.den ^ form.e =
    rw (← mul-pow m.num m'.den form.e, ← mul-pow m'.num m.den form.e) (pow-le-pow_left grows form.e) in
    ends_fall form m m' _ _ _ _ _ _ (whole_power form m range whole is) (whole_power form m' range whole is') powers powers

root_falls : (form : CurveForm) (m m' : Multiple) → IsInRange form → 2 ≤ form.h → 2 * form.e ≤ 3 * form.h → IsEnclosable m → IsEnclosable m' → IsAtMost m m'
    → IsNotAbove (root_enclosure true form (root_of form m')) (root_enclosure true form (root_of form m))
root_falls form m m' range root exponent is is' grows =
    ends_fall form m m' _ _ _ _ _ _
    (root_power form m _ _ (is_root form m range root exponent is)) (root_power form m' _ _ (is_root form m' range root exponent is'))
    (mul-le-mul_right one (low_end-grows form.h (low_power form m) (low_power form m') (omega (arith, low_power-above form m range is)) (power_down-le form.e _ _ (floor_grows m m' is is' grows))))
    (mul-le-mul_right one (high_end-grows form.h (high_power form m) (high_power form m') (high_power-within form m' range root exponent is') (power_up-le form.e _ _ (ceil_grows m m' is is' grows))))

range_falls : (form : CurveForm) (m m' : Multiple) → IsInRange form → IsExponent form → IsEnclosable m → IsEnclosable m' → IsAtMost m m'
    → IsNotAbove (custom_enclosure form m') (custom_enclosure form m)
range_falls form m m' range exponent is is' grows =
    elim exponent [
      | inl whole ↦ rw (whole_is form m whole.0, whole_is form m' whole.0) (whole_falls form m m' range whole.0 is is' grows)
      | inr root ↦ rw (root_is form m root.0, root_is form m' root.0) (root_falls form m m' range root.0 root.1 is is' grows)
    ]

-- neither end rises as the multiple grows
pub falls : (form : CurveForm) (m m' : Multiple) → IsCustomForm form → IsEnclosable m → IsEnclosable m' → IsAtMost m m'
    → IsNotAbove (custom_enclosure form m') (custom_enclosure form m)
falls form m m' custom is is' grows = range_falls form m m' custom.in_range custom.exponent is is' grows

-- ---- the width

-- the ends of a root's time are at most 5,000 nanoseconds apart
root_narrow : (form : CurveForm) (low high : ℕ) → one + 2 ^ 36 ≤ low → low ≤ high → high ≤ low + 256 → (ends_between form one low high).upper < 2 ^ 40
    → (ends_between form one low high).upper ≤ (ends_between form one low high).lower + 5000
root_narrow form low high above ordered near small =
    let scaled = form.k4 * 100000 * one in
    let p = low - one in
    let q = high - one in
    let n = scaled / q in
    let some : 0 < p = omega (arith, above) in
    let wide : p ≤ q = omega (arith, ordered) in
    let within = floor_within scaled q in
    let covers = ceil_covers scaled p some in
    let few : n ≤ div_ceil scaled p =
    le_of_mul-le-mul_right {k = q} (omega (arith, within, covers, mul-le-mul_left (div_ceil scaled p) wide)) (omega (arith, some, wide)) in
    let close : scaled ≤ (n + 5000) * p =
    closed scaled n p q (omega (arith, few, small)) (omega (arith, above)) (omega (arith, near, above)) (floor_near scaled q (omega (arith, some, wide))) in
    plain n (div_ceil scaled p) (constant_ns form) (ceil_least scaled p (n + 5000) some close)
  where
    plain : (x y c : ℕ) → y ≤ x + 5000 → y + c ≤ x + c + 5000
    plain x y c p = omega arith

    closed : (a n p q : ℕ) → n ≤ 2 ^ 40 → 2 ^ 36 ≤ p → q ≤ p + 256 → a < (n + 1) * q → a ≤ (n + 5000) * p
    closed a n p q few far near next = omega (arith, mul-le-mul_left (n + 1) near, next, few, far)

-- ---- what the enclosure keeps

pub lowest_is : IsEnclosable lowest
lowest_is = record { num = lit≤ tt; some = lit≤ tt; den = lit≤ tt; above_one = lit≤ tt; at_most_thirty = lit≤ tt }

-- what is asked of the lowest multiple is that the time there is below 2^40 nanoseconds
pub small_means : (form : CurveForm) → IsInRange form → IsExponent form → IsSmall form → (custom_enclosure form lowest).upper < 2 ^ 40
small_means form range exponent small =
    elim exponent [
      | inl whole ↦ rw (whole_is form lowest whole.0) (small.whole whole.0)
      | inr root ↦ rw (root_is form lowest root.0)
          (small.root root.0 _ (is_low_end form.h (low_power form lowest) (omega (arith, low_power-above form lowest range lowest_is))))
    ]

pub small_is_meant : (form : CurveForm) → IsInRange form → (custom_enclosure form lowest).upper < 2 ^ 40 → IsSmall form
small_is_meant form range within = record {
  whole = λ whole. subst (λ e. e.upper < 2 ^ 40) (whole_is form lowest whole) within;
  root = λ root low is_low.
      let same = low_end-only form.h (low_power form lowest) low (omega (arith, low_power-above form lowest range lowest_is)) is_low in
      rw same (subst (λ e. e.upper < 2 ^ 40) (root_is form lowest root) within);
}

-- the time at each multiple is below 2^40 nanoseconds, since it is at the lowest
upper_small : (form : CurveForm) (m : Multiple) → IsCustomForm form → IsEnclosable m → (custom_enclosure form m).upper < 2 ^ 40
upper_small form m custom is =
    omega (arith, small_means form custom.in_range custom.exponent custom.small, (falls form lowest m custom lowest_is is (omega (arith, is.above_one))).upper)

whole_keeps : (form : CurveForm) (m : Multiple) → IsCustomForm form → form.h ≡ 1 → form.e ≤ 3 → IsEnclosable m → (whole_enclosure form m).upper < 2 ^ 40
    → Keeps true form m (whole_enclosure form m)
whole_keeps form m custom whole few is small =
    let power = whole_power form m custom.in_range whole is in
    let width : width_of true form ≡ 1 = ap (λ (b : Bool). if b then 1 else root_width true) (eq-eqb form.h 1 whole) in
    record {
      under = lower_is_under form m _ _ _ power;
      over = upper_is_over form m _ _ _ custom.in_range.some_k power;
      ordered = ends_ordered form m _ _ _ power;
      narrow = rw width (exact_ends_narrow form _ _ power.above_one);
      bounded = (lower_some form m _ _ _ custom.in_range.some_k power (whole_small form m few is), small);
    }

root_keeps : (form : CurveForm) (m : Multiple) → IsCustomForm form → 2 ≤ form.h → 2 * form.e ≤ 3 * form.h → IsEnclosable m
    → (root_enclosure true form (root_of form m)).upper < 2 ^ 40 → Keeps true form m (root_enclosure true form (root_of form m))
root_keeps form m custom root exponent is small =
    let ends = is_root form m custom.in_range root exponent is in
    let power = root_power form m _ _ ends in
    let width : width_of true form ≡ 5000 =
    ap (λ (b : Bool). if b then 1 else root_width true) (ne_eqb form.h 1 (λ same. omega (arith, root, same))) in
    record {
      under = lower_is_under form m _ _ _ power;
      over = upper_is_over form m _ _ _ custom.in_range.some_k power;
      ordered = ends_ordered form m _ _ _ power;
      narrow = rw width (root_narrow form _ _ ends.above_one ends.ordered ends.near small);
      bounded = (lower_some form m _ _ _ custom.in_range.some_k power (omega (arith, ends.to)), small);
    }

-- each enclosure is under and over, narrow, ordered and bounded
pub keeps : (form : CurveForm) (m : Multiple) → IsCustomForm form → IsEnclosable m → Keeps true form m (custom_enclosure form m)
keeps form m custom is =
    let small = upper_small form m custom is in
    elim custom.exponent [
      | inl whole ↦ subst (Keeps true form m) (sym (whole_is form m whole.0))
          (whole_keeps form m custom whole.0 whole.1 is (subst (λ e. e.upper < 2 ^ 40) (whole_is form m whole.0) small))
      | inr root ↦ subst (Keeps true form m) (sym (root_is form m root.0))
          (root_keeps form m custom root.0 root.1 is (subst (λ e. e.upper < 2 ^ 40) (root_is form m root.0) small))
    ]
