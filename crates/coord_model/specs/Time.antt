-- The operating time of a dependent-time curve, multiplied out: no division and no root.
-- IEC 60255-151: t = TMS * (k / ((G/Gs)^a - 1) + c). IEEE C37.112: t = A / (M^p - 1) + B, which here the dial
-- multiplies as a whole (ours).
use Rattle.std.specs.Prelude.{ℕ, ◌+◌, ◌-◌, ◌*◌, ◌^◌, ◌<◌, ◌≤◌, nat_le, if◌then◌else◌}
use Rattle.coord_model.specs.declared.curve.CurveForm.{CurveForm}
use Rattle.coord_model.specs.declared.study.Relay.{Relay}

-- a multiple of pickup: the current over the pickup, G/Gs or M of the standards
pub record Multiple : Type 0 where
  pub num : ℕ
  pub den : ℕ

-- the plug at a pickup step, in hundredths of a secondary ampere
abbrev pub plug_at : Relay → ℕ → ℕ
plug_at relay step = relay.plug_first + step * relay.plug_step

-- the dial at a dial step, in thousandths
abbrev pub dial_at : Relay → ℕ → ℕ
dial_at relay step = relay.dial_first + step * relay.dial_step

-- the multiple of pickup of a current in primary amperes, at a pickup step
abbrev pub sensed_multiple : Relay → ℕ → ℕ → Multiple
sensed_multiple relay step amps = record {
  num = 100 * amps * relay.ct_secondary;
  den = plug_at relay step * relay.ct_primary;
}

-- the multiple, or the cap where it reaches the cap, past which a relay gets no faster (ours)
abbrev pub capped : ℕ → Multiple → Multiple
capped cap m = if nat_le (cap * m.den) m.num then (record { num = cap; den = 1 }) else m

-- the part of n/q seconds above the constant term, in units of 1/(10000*q) second
abbrev pub excess : CurveForm → ℕ → ℕ → ℕ
excess form n q = 10000 * n - form.c4 * q

-- n/q seconds is at most the curve's time at the multiple
abbrev pub IsUnder : CurveForm → Multiple → ℕ → ℕ → Type 0
IsUnder form m n q =
    m.num ^ form.e * excess form n q ^ form.h ≤ m.den ^ form.e * (excess form n q + form.k4 * q) ^ form.h

-- n/q seconds is at least the curve's time at the multiple
pub record IsOver (form : CurveForm) (m : Multiple) (n q : ℕ) : Type 0 where
  pub past_constant : form.c4 * q < 10000 * n
  pub reaches : m.den ^ form.e * (excess form n q + form.k4 * q) ^ form.h ≤ m.num ^ form.e * excess form n q ^ form.h
