-- The ends of the root as functions of the constants and the multiple.
use Rattle.std.specs.Prelude.{ℕ, true, ◌+◌, ◌-◌, ◌^◌, ◌≤◌, nat_le}
use Rattle.coord_model.specs.CustomForm.{IsExponent, IsInRange}
use Rattle.coord_model.specs.CustomRoot.{IsHighEnd, IsLowEnd, high_power, last, low_power, one, power_down, power_up}
use Rattle.coord_model.specs.Enclosure.{Enclosure, IsEnclosable, Root, enclosure}
use Rattle.coord_model.specs.Time.{Multiple}
use Rattle.coord_model.specs.declared.curve.CurveForm.{CurveForm}
use Rattle.root_interval.specs.Root.{greatest}

-- the low end of the h-th root of a power, counted up from one
unfoldable pub low_end : ℕ → ℕ → ℕ
low_end h power = one + greatest (λ k. nat_le (power_up (one + k) h) power) (last - one)

-- the high end, counted down from the last number that is tried
unfoldable pub high_end : ℕ → ℕ → ℕ
high_end h power = last - greatest (λ k. nat_le power (power_down (last - k) h)) (last - one)

-- the ends that are taken for the power M^(e/h) of a multiple, where it is a root
abbrev pub root_of : CurveForm → Multiple → Root
root_of form m = record { low = low_end form.h (low_power form m); high = high_end form.h (high_power form m) }

-- the enclosure of the time of a curve with these constants
abbrev pub custom_enclosure : CurveForm → Multiple → Enclosure
custom_enclosure form m = enclosure true form (root_of form m) m

-- The ends are the best for the power M^(e/h) of a multiple: the greatest number that is seen to be
-- at most it, and the least that is seen to be at least it. They are at most 2^8 apart.
pub record IsBestRoot (form : CurveForm) (m : Multiple) (root : Root) : Type 0 where
  pub low : IsLowEnd form.h (low_power form m) root.low
  pub high : IsHighEnd form.h (high_power form m) root.high
  pub near : root.high ≤ root.low + 2 ^ 8

-- the ends that a curve takes are the best, at each multiple whose time is enclosed
abbrev pub RootsAreBest : Type 0
RootsAreBest =
    (form : CurveForm) (m : Multiple) → IsInRange form → IsExponent form → 2 ≤ form.h → IsEnclosable m
    → IsBestRoot form m (root_of form m)
