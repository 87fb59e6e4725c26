-- The enclosure of an operating time at dial 1 in whole nanoseconds (ours): the lower end is at most the curve's
-- time, the upper end at least it.
use Rattle.std.specs.Prelude.{ℕ, Bool, ◌+◌, ◌-◌, ◌*◌, ◌/◌, ◌^◌, ◌≤◌, ◌==◌, if◌then◌else◌}
use Rattle.std.specs.Int.{div_ceil}
use Rattle.coord_model.specs.Time.{Multiple}
use Rattle.coord_model.specs.declared.curve.CurveForm.{CurveForm}

-- the two ends of an operating time, in nanoseconds
pub record Enclosure : Type 0 where
  pub lower : ℕ
  pub upper : ℕ

-- two ends of the power of a multiple that a curve takes, M^(e/h), where it is a root
pub record Root : Type 0 where
  pub low : ℕ
  pub high : ℕ

-- the constant term of a curve, in nanoseconds
abbrev pub constant_ns : CurveForm → ℕ
constant_ns form = form.c4 * 100000

-- the time of a curve where the power of the multiple, M^(e/h), lies between low/unit and high/unit: at the high
-- end rounded down, at the low end rounded up
abbrev pub ends_between : CurveForm → ℕ → ℕ → ℕ → Enclosure
ends_between form unit low high =
    let scaled = form.k4 * 100000 * unit in
    record {
      lower = scaled / (high - unit) + constant_ns form;
      upper = div_ceil scaled (low - unit) + constant_ns form;
    }

-- with a whole exponent the power is known exactly
abbrev pub whole_enclosure : CurveForm → Multiple → Enclosure
whole_enclosure form m = ends_between form (m.den ^ form.e) (m.num ^ form.e) (m.num ^ form.e)

-- the ends of a root are in these parts of one: 2^56 for a curve of the standards, 2^48 for one of its own constants
abbrev pub root_unit : Bool → ℕ
root_unit is_custom = if is_custom then 2 ^ 48 else 2 ^ 56

-- with a broken exponent the power is a root, which lies between its ends
abbrev pub root_enclosure : Bool → CurveForm → Root → Enclosure
root_enclosure is_custom form root = ends_between form (root_unit is_custom) root.low root.high

-- the enclosure of a curve's time at a multiple, given the ends of the root that it takes
abbrev pub enclosure : Bool → CurveForm → Root → Multiple → Enclosure
enclosure is_custom form root m =
    if form.h == 1 then whole_enclosure form m else root_enclosure is_custom form root

-- how far apart the ends of a root's time may lie, in nanoseconds
abbrev pub root_width : Bool → ℕ
root_width is_custom = if is_custom then 5000 else 100

-- how far apart the ends may lie, in nanoseconds
abbrev pub width_of : Bool → CurveForm → ℕ
width_of is_custom form = if form.h == 1 then 1 else root_width is_custom

-- a multiple whose time is enclosed: from 1.05 to 30, of numbers within the limits
pub record IsEnclosable (m : Multiple) : Type 0 where
  pub num : m.num ≤ 3000000000
  pub some : 1 ≤ m.den
  pub den : m.den ≤ 100000000
  pub above_one : 105 * m.den ≤ 100 * m.num
  pub at_most_thirty : m.num ≤ 30 * m.den

-- one multiple is at most another
abbrev pub IsAtMost : Multiple → Multiple → Type 0
IsAtMost m m' = m.num * m'.den ≤ m'.num * m.den

-- neither end of the later enclosure lies above that of the earlier one
pub record IsNotAbove (later earlier : Enclosure) : Type 0 where
  pub lower : later.lower ≤ earlier.lower
  pub upper : later.upper ≤ earlier.upper
