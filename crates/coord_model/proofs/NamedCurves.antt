-- What the enclosures of the named curves keep.
use Rattle.std.proofs.Common.{ℕ, false, ◌+◌, ◌-◌, ◌*◌, ◌^◌, ◌<◌, ◌≤◌, ◌≡◌, sym, ap, subst, ◌∙◌, arith, lit≤, lit<}
use Rattle.std.proofs.Math.Nat.{mul-le-mul_left, mul-le-mul_right, pow-le-pow_left, pow-suc, pow-zero}
use Rattle.std.proofs.lemmas.Nat.{mul-le, mul-pow}
use Rattle.coord_model.specs.Enclosure.{Root, enclosure, ends_between, root_enclosure, whole_enclosure, IsAtMost, IsEnclosable, IsNotAbove}
use Rattle.coord_model.specs.Form.{form_of, form_with, is_custom}
use Rattle.coord_model.specs.Time.{Multiple}
use Rattle.coord_model.specs.declared.curve.CurveForm.{CurveForm}
use Rattle.coord_model.specs.declared.curve.CurveName.{CurveName}
use Rattle.coord_model.specs.declared.curve.CurveName.TheVariants.{IecA, IecB, IecC, IeeeMi, IeeeVi, IeeeEi, Custom}
use Rattle.coord_model.proofs.CurveEnds.{HasPower, Keeps, lower_is_under, upper_is_over, ends_ordered, exact_ends_narrow, root_ends_narrow, lower_some, upper_small, ends_fall}

-- two near ends of the fiftieth root of a multiple
pub record IsRootOf (m : Multiple) (root : Root) : Type 0 where
  pub above_one : 2 ^ 56 + 3 * 2 ^ 44 ≤ root.low
  pub at_most : root.high ≤ 2 ^ 57
  pub ordered : root.low ≤ root.high
  pub narrow : root.high ≤ root.low + 2 ^ 14
  pub low_power : root.low ^ 50 * m.den ≤ m.num * 2 ^ 2800
  pub high_power : m.num * 2 ^ 2800 ≤ root.high ^ 50 * m.den

pub pow_one : (x : ℕ) → x ^ 1 ≡ x
pow_one x = pow-suc x 0 ∙ rw pow-zero (omega arith)

pub pow_two : (x : ℕ) → x ^ 2 ≡ x * x
pow_two x = pow-suc x 1 ∙ ap (λ w. w * x) (pow_one x)

-- ---- where the powers lie

-- where the power of a named curve lies: neither too near to 1 nor too high
record HasNamedPower (form : CurveForm) (m : Multiple) (unit low high : ℕ) : Type 0 where
  power : HasPower form m unit low high
  steep : form.k4 * unit ≤ 8000000 * (low - unit)
  at_most : high ≤ 900 * unit

-- neither end is nothing, and both fit into forty bits
bounded : (form : CurveForm) (m : Multiple) (unit low high : ℕ) → 0 < form.k4 → form.c4 ≤ 10000 → HasNamedPower form m unit low high
    → (0 < (ends_between form unit low high).lower) × ((ends_between form unit low high).upper < 2 ^ 40)
bounded form m unit low high some small named =
    (lower_some form m unit low high some named.power (omega (arith, named.at_most)), upper_small form unit low high small named.power.above_one named.steep)

abbrev root_form : ℕ → ℕ → CurveForm
root_form k4 c4 = form_with k4 c4 1 50

root_power : (k4 c4 : ℕ) (m : Multiple) (root : Root) → k4 ≤ 1400 → IsRootOf m root → HasNamedPower (root_form k4 c4) m (2 ^ 56) root.low root.high
root_power k4 c4 m root few is_root = record {
  power = record {
    some_unit = lit< tt;
    above_one = omega (arith, is_root.above_one);
    ordered = is_root.ordered;
    low_power = rw (pow_one m.den, pow_one m.num) (omega (arith, is_root.low_power));
    high_power = rw (pow_one m.den, pow_one m.num) is_root.high_power;
  };
  steep = omega (arith, few, is_root.above_one);
  at_most = omega (arith, is_root.at_most);
}

abbrev whole_form : ℕ → ℕ → ℕ → CurveForm
whole_form k4 c4 e = form_with k4 c4 e 1

-- an exact power needs only to lie in its bounds
exact_power : (k4 c4 e : ℕ) (m : Multiple) → 0 < m.den ^ e → m.den ^ e < m.num ^ e → k4 * m.den ^ e ≤ 8000000 * (m.num ^ e - m.den ^ e)
    → m.num ^ e ≤ 900 * m.den ^ e → HasNamedPower (whole_form k4 c4 e) m (m.den ^ e) (m.num ^ e) (m.num ^ e)
exact_power k4 c4 e m some above steep at_most = record {
  power = record {
    some_unit = some;
    above_one = above;
    ordered = omega arith;
    low_power = rw (pow_one (m.den ^ e), pow_one (m.num ^ e)) (omega arith);
    high_power = rw (pow_one (m.den ^ e), pow_one (m.num ^ e)) (omega arith);
  };
  steep = steep;
  at_most = at_most;
}

once_power : (k4 c4 : ℕ) (m : Multiple) → k4 ≤ 135000 → IsEnclosable m → HasNamedPower (whole_form k4 c4 1) m (m.den ^ 1) (m.num ^ 1) (m.num ^ 1)
once_power k4 c4 m few is_enclosable =
    exact_power k4 c4 1 m
    (rw (pow_one m.den) (omega (arith, is_enclosable.some)))
    (rw (pow_one m.den, pow_one m.num) (omega (arith, is_enclosable.some, is_enclosable.above_one)))
    (rw (pow_one m.den, pow_one m.num) (omega (arith, mul-le-mul_right m.den few, is_enclosable.above_one)))
    (rw (pow_one m.den, pow_one m.num) (omega (arith, is_enclosable.at_most_thirty)))

-- the square of a multiple of at least 1.05 is above 1.1
pub square_above : (num den : ℕ) → 105 * den ≤ 100 * num → 11 * (den * den) ≤ 10 * (num * num)
square_above num den above = omega (arith, mul-le (105 * den) (105 * den) (100 * num) (100 * num) above above)

-- with x above den
squares : (k den x : ℕ) → k ≤ 800000 → 1 ≤ den → den ≤ 20 * x
    → (den * den < (den + x) * (den + x)) × (k * (den * den) ≤ 8000000 * ((den + x) * (den + x) - den * den))
squares k den x few some near =
    let wide : den * den ≤ 10 * (den * x + den * x) = omega (arith, mul-le-mul_left den near) in
    let parts : (den + x) * (den + x) ≡ den * den + (den * x + den * x + x * x) = omega arith in
    let positive : 1 * 1 ≤ den * den = mul-le 1 1 den den some some in
    rw parts (omega (arith, wide, positive), omega (arith, wide, mul-le-mul_right (den * den) few))

twice_power : (k4 c4 : ℕ) (m : Multiple) → k4 ≤ 800000 → IsEnclosable m → HasNamedPower (whole_form k4 c4 2) m (m.den ^ 2) (m.num ^ 2) (m.num ^ 2)
twice_power k4 c4 m few is_enclosable =
    let parts : m.num ≡ m.den + (m.num - m.den) = omega (arith, is_enclosable.above_one) in
    let within = squares k4 m.den (m.num - m.den) few is_enclosable.some (omega (arith, is_enclosable.above_one)) in
    exact_power k4 c4 2 m
    (rw (pow_two m.den) (mul-le 1 1 m.den m.den is_enclosable.some is_enclosable.some))
    (rw (pow_two m.den, pow_two m.num) (subst (λ n. m.den * m.den < n * n) (sym parts) within.0))
    (rw (pow_two m.den, pow_two m.num) (subst (λ n. k4 * (m.den * m.den) ≤ 8000000 * (n * n - m.den * m.den)) (sym parts) within.1))
    (rw (pow_two m.den, pow_two m.num) (omega (arith, mul-le m.num m.num (30 * m.den) (30 * m.den) is_enclosable.at_most_thirty is_enclosable.at_most_thirty)))

-- ---- what the enclosures keep

root_keeps : (k4 c4 : ℕ) (m : Multiple) (root : Root) → 0 < k4 → k4 ≤ 1400 → c4 ≤ 10000 → IsRootOf m root
    → Keeps false (root_form k4 c4) m (root_enclosure false (root_form k4 c4) root)
root_keeps k4 c4 m root some few small is_root =
    let named = root_power k4 c4 m root few is_root in
    let power = named.power in
    record {
      under = lower_is_under (root_form k4 c4) m _ _ _ power;
      over = upper_is_over (root_form k4 c4) m _ _ _ some power;
      ordered = ends_ordered (root_form k4 c4) m _ _ _ power;
      narrow = root_ends_narrow (root_form k4 c4) root.low root.high few is_root.above_one is_root.ordered is_root.narrow;
      bounded = bounded (root_form k4 c4) m _ _ _ some small named;
    }

whole_keeps : (k4 c4 e : ℕ) (m : Multiple) → 0 < k4 → c4 ≤ 10000 → HasNamedPower (whole_form k4 c4 e) m (m.den ^ e) (m.num ^ e) (m.num ^ e)
    → Keeps false (whole_form k4 c4 e) m (whole_enclosure (whole_form k4 c4 e) m)
whole_keeps k4 c4 e m some small named = let power = named.power in record {
  under = lower_is_under (whole_form k4 c4 e) m _ _ _ power;
  over = upper_is_over (whole_form k4 c4 e) m _ _ _ some power;
  ordered = ends_ordered (whole_form k4 c4 e) m _ _ _ power;
  narrow = exact_ends_narrow (whole_form k4 c4 e) (m.den ^ e) (m.num ^ e) power.above_one;
  bounded = bounded (whole_form k4 c4 e) m _ _ _ some small named;
}

-- of each named curve, at each enclosable multiple, with any two near ends of its root
pub enclosure_keeps : (curve : CurveName) (m : Multiple) (root : Root) → is_custom curve ≡ false → IsEnclosable m → IsRootOf m root
    → Keeps false (form_of curve) m (enclosure false (form_of curve) root m)
enclosure_keeps IecA m root named h r = root_keeps _ _ m root (lit< tt) (lit≤ tt) (lit≤ tt) r
enclosure_keeps IecB m root named h r = whole_keeps _ _ _ m (lit< tt) (lit≤ tt) (once_power _ _ m (lit≤ tt) h)
enclosure_keeps IecC m root named h r = whole_keeps _ _ _ m (lit< tt) (lit≤ tt) (twice_power _ _ m (lit≤ tt) h)
enclosure_keeps IeeeMi m root named h r = root_keeps _ _ m root (lit< tt) (lit≤ tt) (lit≤ tt) r
enclosure_keeps IeeeVi m root named h r = whole_keeps _ _ _ m (lit< tt) (lit≤ tt) (twice_power _ _ m (lit≤ tt) h)
enclosure_keeps IeeeEi m root named h r = whole_keeps _ _ _ m (lit< tt) (lit≤ tt) (twice_power _ _ m (lit≤ tt) h)
enclosure_keeps (Custom k4 c4 e h4) m root named h r = absurd (let wrong = named in cc)

-- ---- the fall

record Falls (form : CurveForm) (root root' : Root) (m m' : Multiple) : Type 0 where
  falls : IsNotAbove (enclosure false form root' m') (enclosure false form root m)

root_falls : (k4 c4 : ℕ) (m m' : Multiple) (root root' : Root) → k4 ≤ 1400 → IsRootOf m root → IsRootOf m' root'
    → root.low ≤ root'.low → root.high ≤ root'.high → Falls (root_form k4 c4) root root' m m'
root_falls k4 c4 m m' root root' few is_root is_root' low high = record {
  falls = ends_fall (root_form k4 c4) m m' _ _ _ _ _ _ (root_power k4 c4 m root few is_root).power (root_power k4 c4 m' root' few is_root').power
      (mul-le-mul_right (2 ^ 56) low) (mul-le-mul_right (2 ^ 56) high);
}

whole_falls : (k4 c4 e : ℕ) (m m' : Multiple) (root root' : Root) → HasNamedPower (whole_form k4 c4 e) m (m.den ^ e) (m.num ^ e) (m.num ^ e)
    → HasNamedPower (whole_form k4 c4 e) m' (m'.den ^ e) (m'.num ^ e) (m'.num ^ e) → IsAtMost m m' → Falls (whole_form k4 c4 e) root root' m m'
whole_falls k4 c4 e m m' root root' power power' grows =
    let powers_grow : m.num ^ e * m'.den ^ e ≤ m'.num ^ e * m.den ^ e =
    rw (← mul-pow m.num m'.den e, ← mul-pow m'.num m.den e) (pow-le-pow_left grows e) in
    record { falls = ends_fall (whole_form k4 c4 e) m m' _ _ _ _ _ _ power.power power'.power powers_grow powers_grow }

named_falls : (curve : CurveName) (m m' : Multiple) (root root' : Root) → is_custom curve ≡ false → IsEnclosable m → IsEnclosable m' → IsRootOf m root → IsRootOf m' root'
    → root.low ≤ root'.low → root.high ≤ root'.high → IsAtMost m m' → Falls (form_of curve) root root' m m'
named_falls IecA m m' root root' named h h' r r' low high grows = root_falls _ _ m m' root root' (lit≤ tt) r r' low high
named_falls IecB m m' root root' named h h' r r' low high grows =
    whole_falls _ _ _ m m' root root' (once_power _ _ m (lit≤ tt) h) (once_power _ _ m' (lit≤ tt) h') grows
named_falls IecC m m' root root' named h h' r r' low high grows =
    whole_falls _ _ _ m m' root root' (twice_power _ _ m (lit≤ tt) h) (twice_power _ _ m' (lit≤ tt) h') grows
named_falls IeeeMi m m' root root' named h h' r r' low high grows = root_falls _ _ m m' root root' (lit≤ tt) r r' low high
named_falls IeeeVi m m' root root' named h h' r r' low high grows =
    whole_falls _ _ _ m m' root root' (twice_power _ _ m (lit≤ tt) h) (twice_power _ _ m' (lit≤ tt) h') grows
named_falls IeeeEi m m' root root' named h h' r r' low high grows =
    whole_falls _ _ _ m m' root root' (twice_power _ _ m (lit≤ tt) h) (twice_power _ _ m' (lit≤ tt) h') grows
named_falls (Custom k4 c4 e h4) m m' root root' named h h' r r' low high grows = absurd (let wrong = named in cc)

-- neither end rises as the multiple grows, where the ends of its root don't fall
pub enclosure_falls : (curve : CurveName) (m m' : Multiple) (root root' : Root) → is_custom curve ≡ false → IsEnclosable m → IsEnclosable m' → IsRootOf m root → IsRootOf m' root'
    → root.low ≤ root'.low → root.high ≤ root'.high → IsAtMost m m'
    → IsNotAbove (enclosure false (form_of curve) root' m') (enclosure false (form_of curve) root m)
enclosure_falls curve m m' root root' named h h' r r' low high grows = (named_falls curve m m' root root' named h h' r r' low high grows).falls
