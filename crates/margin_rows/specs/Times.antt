-- The operating times of a case, enclosed in whole nanoseconds at dial 1 (ours).
use Rattle.std.specs.Prelude.{ℕ, ◌<◌, ◌≤◌, ◌^◌, slice_get}
use Rattle.std.specs.Option.{option_map_or}
use Rattle.coord_model.specs.Enclosure.{Enclosure, Root, enclosure, width_of}
use Rattle.coord_model.specs.Form.{form_of, form_with, is_custom}
use Rattle.coord_model.specs.Rows.{amps_at}
use Rattle.coord_model.specs.Time.{Multiple, sensed_multiple, capped}
use Rattle.coord_model.specs.declared.curve.CurveName.{CurveName}
use Rattle.coord_model.specs.declared.curve.CurveName.TheVariants.{IecA, IecB, IecC, IeeeMi, IeeeVi, IeeeEi, Custom}
use Rattle.coord_model.specs.declared.study.Relay.{Relay}
use Rattle.curve_custom.specs.Ends as custom
use Rattle.curve_iec.specs.Curves as named
use Rattle.margin_rows.specs.Case.{Case}
use Rattle.margin_rows.specs.declared.ends.Ends.{Ends}

-- the ends that a curve takes for the power of a multiple, where that is a root
abbrev pub curve_root : CurveName → Multiple → Root
curve_root IecA m = named.root_of m
curve_root IecB m = named.root_of m
curve_root IecC m = named.root_of m
curve_root IeeeMi m = named.root_of m
curve_root IeeeVi m = named.root_of m
curve_root IeeeEi m = named.root_of m
curve_root (Custom k4 c4 e h) m = custom.root_of (form_with k4 c4 e h) m

-- the enclosure of a curve's time at a multiple
unfoldable pub curve_time : CurveName → Multiple → Enclosure
curve_time curve m = enclosure (is_custom curve) (form_of curve) (curve_root curve m) m

-- the enclosure of a relay's time at a pickup step and a current
abbrev pub relay_time : ℕ → Relay → ℕ → ℕ → Enclosure
relay_time cap relay step amps = curve_time relay.curve (capped cap (sensed_multiple relay step amps))

-- the enclosure of a relay's time at a fault and a pickup step
abbrev pub time_at : Case → ℕ → ℕ → ℕ → Enclosure
time_at case fault relay step =
    option_map_or (λ r. relay_time case.study.cap r step (amps_at case.currents fault relay))
    (slice_get case.study.relays relay) (record { lower = 0; upper = 0 })

-- how far apart the ends of a relay's time may lie
abbrev pub width_at : Case → ℕ → ℕ
width_at case relay = option_map_or (λ r. width_of (is_custom r.curve) (form_of r.curve)) (slice_get case.study.relays relay) 0

-- the two ends of an enclosure
abbrev pub ends_of : Enclosure → Ends
ends_of e = record { lower = e.lower; upper = e.upper }

-- the two ends as a pair
abbrev pub ends : Enclosure → ℕ × ℕ
ends e = (e.lower, e.upper)

-- the ends are in order, above 0 and below 2^40
pub record IsOrdinary (e : Enclosure) : Type 0 where
  pub positive : 0 < e.lower
  pub ordered : e.lower ≤ e.upper
  pub small : e.upper < 2 ^ 40
