-- What settings are allowed. The coordination constraint is that of Urdaneta, Nadira and Perez (1988).
-- The sensing rule, the load rule, and the least and greatest times are ours.
use Rattle.std.specs.Prelude.{◌≡◌, ℕ, ◌&&◌, ◌==◌, ◌+◌, ◌*◌, ◌<◌, ◌≤◌, ◌⊎◌, List, length, slice_get, slice_index, IfSome, All, Contains}
use Rattle.std.specs.List.{find}
use Rattle.std.specs.Option.{option_map_or}
use Rattle.coord_model.specs.Choice.{Settings}
use Rattle.coord_model.specs.Dial.{dial_of}
use Rattle.coord_model.specs.Form.{form_of}
use Rattle.coord_model.specs.Rows.{amps_at, interval_rows, least_ms_of, most_ms_of, rows_of, terms_of}
use Rattle.coord_model.specs.StudyData.{StudyData}
use Rattle.coord_model.specs.Time.{plug_at, sensed_multiple, capped, IsUnder, IsOver}
use Rattle.coord_model.specs.declared.study.Current.{Current}
use Rattle.coord_model.specs.declared.study.Relay.{Relay}
use Rattle.coord_model.specs.declared.study.Row.{Row}
use Rattle.coord_model.specs.declared.study.RowKind.{RowKind}
use Rattle.coord_model.specs.declared.study.RowKind.TheVariants.{Interval, Least, Most}

-- the steps of a relay lie below its counts
pub record IsOnSteps (relay : Relay) (pickup dial : ℕ) : Type 0 where
  pub pickup_step : pickup < relay.plug_count
  pub dial_step : dial < relay.dial_count

-- the settings have one pickup step and one dial step for each relay, each below its count
pub record AreOnSteps (study : StudyData) (settings : Settings) : Type 0 where
  pub pickups : length settings.pickup ≡ length study.relays
  pub dials : length settings.dial ≡ length study.relays
  pub steps : (i : ℕ) → IfSome (slice_get study.relays i) (λ relay. IsOnSteps relay (slice_index settings.pickup i) (slice_index settings.dial i))

-- relay i has a current at fault f that counts: in a term, or in a row as backup
abbrev pub IsUsed : StudyData → List Current → ℕ → ℕ → Type 0
IsUsed study currents f i =
    Contains (terms_of study currents) (record { fault = f; relay = i })
    ⊎ ((p : ℕ) × Contains (interval_rows study currents) (record { kind = Interval; fault = f; backup = i; primary = p }))

-- the relay senses the current at this pickup step: its multiple is at least `sense` hundredths
abbrev pub Senses : StudyData → Relay → ℕ → ℕ → Type 0
Senses study relay step amps =
    let m = sensed_multiple relay step amps in study.sense * m.den ≤ 100 * m.num

-- the pickup lies above the load by `load_percent`
abbrev pub ClearsLoad : StudyData → Relay → ℕ → Type 0
ClearsLoad study relay step =
    study.load_percent * relay.load_amps * relay.ct_secondary ≤ plug_at relay step * relay.ct_primary

-- the pickup step senses each current that counts, and clears the load
pub record IsSensible (study : StudyData) (currents : List Current) (i : ℕ) (relay : Relay) (step : ℕ) : Type 0 where
  pub senses : (f : ℕ) → IsUsed study currents f i → Senses study relay step (amps_at currents f i)
  pub load : ClearsLoad study relay step

-- n/q seconds is at least what relay i's curve gives at fault f with these settings
abbrev pub IsOverTime : StudyData → List Current → Settings → ℕ → ℕ → ℕ → ℕ → Type 0
IsOverTime study currents settings f i n q =
    IfSome (slice_get study.relays i) (λ relay. IsOver (form_of relay.curve)
    (capped study.cap (sensed_multiple relay (slice_index settings.pickup i) (amps_at currents f i))) n q)

-- n/q seconds is at most what relay i's curve gives at fault f with these settings
abbrev pub IsUnderTime : StudyData → List Current → Settings → ℕ → ℕ → ℕ → ℕ → Type 0
IsUnderTime study currents settings f i n q =
    IfSome (slice_get study.relays i) (λ relay. IsUnder (form_of relay.curve)
    (capped study.cap (sensed_multiple relay (slice_index settings.pickup i) (amps_at currents f i))) n q)

-- the coordination interval of backup b and primary p, in milliseconds: the pair's own, or else the study's
abbrev pub cti_of : StudyData → ℕ → ℕ → ℕ
cti_of study b p =
    option_map_or (λ own. own.cti_ms) (find (λ own. (own.backup == b) && (own.primary == p)) study.intervals) study.cti_ms

-- the backup operates at least the pair's coordination interval after the primary
abbrev pub KeepsInterval : StudyData → List Current → Settings → Row → Type 0
KeepsInterval study currents settings row =
    (n1 n2 q : ℕ) → 0 < q
    → IsOverTime study currents settings row.fault row.backup n1 q
    → IsUnderTime study currents settings row.fault row.primary n2 q
    → dial_of study settings row.primary * n2 + cti_of study row.backup row.primary * q ≤ dial_of study settings row.backup * n1

-- the relay takes at least its least time
abbrev pub KeepsLeast : StudyData → List Current → Settings → Row → Type 0
KeepsLeast study currents settings row =
    (n q : ℕ) → 0 < q
    → IsOverTime study currents settings row.fault row.primary n q
    → least_ms_of study row.primary * q ≤ dial_of study settings row.primary * n

-- the relay takes at most its greatest time
abbrev pub KeepsMost : StudyData → List Current → Settings → Row → Type 0
KeepsMost study currents settings row =
    (n q : ℕ) → 0 < q
    → IsUnderTime study currents settings row.fault row.primary n q
    → dial_of study settings row.primary * n ≤ most_ms_of study row.primary * q

-- what a row of this kind asks for is kept
abbrev pub KeepsKind : RowKind → StudyData → List Current → Settings → Row → Type 0
KeepsKind Interval = KeepsInterval
KeepsKind Least = KeepsLeast
KeepsKind Most = KeepsMost

-- the settings keep the row
abbrev pub Keeps : StudyData → List Current → Settings → Row → Type 0
Keeps study currents settings row = KeepsKind row.kind study currents settings row

-- the settings lie on the steps, are sensible, and keep every row
pub record IsAllowed (study : StudyData) (currents : List Current) (settings : Settings) : Type 0 where
  pub on_steps : AreOnSteps study settings
  pub sensible : (i : ℕ) → IfSome (slice_get study.relays i) (λ relay. IsSensible study currents i relay (slice_index settings.pickup i))
  pub keeps : All (Keeps study currents settings) (rows_of study currents)
