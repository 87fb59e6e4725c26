-- Strictly met rows are kept, and rows that are kept are loosely met.
use Rattle.std.proofs.Common.{◌≡◌, ℕ, ◌+◌, ◌*◌, ◌^◌, ◌≤◌, ◌⊎◌, inl, inr, Some, arith, ap, subst, sym}
use Rattle.std.specs.Prelude.{slice_get, slice_index, pos, ◌≤ℤ◌, ◌+ℤ◌}
use Rattle.std.proofs.lemmas.Int.{ints}
use Rattle.std.proofs.Math.Nat.{mul-le-mul_left, mul-le-mul_right, le_of_mul-le-mul_left}
use Rattle.coord_model.proofs.OrderLaws.{under_is_at_most_over}
use Rattle.coord_model.specs.Allowed.{IsOverTime, IsUnderTime, Keeps, KeepsKind, cti_of}
use Rattle.coord_model.specs.Choice.{Settings}
use Rattle.coord_model.specs.Dial.{dial_of}
use Rattle.coord_model.specs.Form.{form_of}
use Rattle.coord_model.specs.Rows.{amps_at, least_ms_of, most_ms_of}
use Rattle.coord_model.specs.StudyData.{StudyData}
use Rattle.coord_model.specs.Time.{sensed_multiple, capped, IsUnder, IsOver}
use Rattle.coord_model.specs.declared.study.Relay.{Relay}
use Rattle.coord_model.specs.declared.study.Row.{Row}
use Rattle.coord_model.specs.declared.study.RowKind.{RowKind}
use Rattle.coord_model.specs.declared.study.RowKind.TheVariants.{Interval, Least, Most}
use Rattle.margin_rows.specs.Case.{Case}
use Rattle.margin_rows.specs.Demands.{asked_ms, granted_ms, slow_part, fast_part}
use Rattle.margin_rows.specs.Margin.{least_ps, greatest_ps, time_of, loose_margin, strict_margin, row_width, MeetsLoosely, MeetsStrictly}
use Rattle.margin_rows.specs.Times.{width_at}
use Rattle.margin_rows.proofs.Curves.{is_falling}
use Rattle.margin_rows.proofs.Timed.{IsEnclosed}

-- a number over the time is at least its lower end
pub over_least : (case : Case) (settings : Settings) (f i n q : ℕ) → IsEnclosed case f i (slice_index settings.pickup i)
    → IsOverTime case.study case.currents settings f i n q → (time_of case settings f i).lower * q ≤ n * 10 ^ 9
over_least case settings f i n q set over =
    let here = rw set.found at over in
    under_is_at_most_over.ordered _ _ (time_of case settings f i).lower (10 ^ 9) n q (is_falling set.relay.curve set.curve) set.enclosable set.under here

-- a number under the time is at most its upper end
pub under_most : (case : Case) (settings : Settings) (f i n q : ℕ) → IsEnclosed case f i (slice_index settings.pickup i)
    → IsUnderTime case.study case.currents settings f i n q → n * 10 ^ 9 ≤ (time_of case settings f i).upper * q
under_most case settings f i n q set under =
    let here = rw set.found at under in
    under_is_at_most_over.ordered _ _ n q (time_of case settings f i).upper (10 ^ 9) (is_falling set.relay.curve set.curve) set.enclosable here set.over

over_there : (case : Case) (settings : Settings) (f i n q : ℕ) (relay : Relay) → slice_get case.study.relays i ≡ Some relay
    → IsOver (form_of relay.curve) (capped case.study.cap (sensed_multiple relay (slice_index settings.pickup i) (amps_at case.currents f i))) n q
    → IsOverTime case.study case.currents settings f i n q
over_there case settings f i n q relay found over = rw found over

under_there : (case : Case) (settings : Settings) (f i n q : ℕ) (relay : Relay) → slice_get case.study.relays i ≡ Some relay
    → IsUnder (form_of relay.curve) (capped case.study.cap (sensed_multiple relay (slice_index settings.pickup i) (amps_at case.currents f i))) n q
    → IsUnderTime case.study case.currents settings f i n q
under_there case settings f i n q relay found under = rw found under

-- the upper end is over the time, and the lower end under it
pub upper_over : (case : Case) (settings : Settings) (f i : ℕ) → IsEnclosed case f i (slice_index settings.pickup i)
    → IsOverTime case.study case.currents settings f i (time_of case settings f i).upper (10 ^ 9)
upper_over case settings f i set = over_there case settings f i (time_of case settings f i).upper (10 ^ 9) set.relay set.found set.over

pub lower_under : (case : Case) (settings : Settings) (f i : ℕ) → IsEnclosed case f i (slice_index settings.pickup i)
    → IsUnderTime case.study case.currents settings f i (time_of case settings f i).lower (10 ^ 9)
lower_under case settings f i set = under_there case settings f i (time_of case settings f i).lower (10 ^ 9) set.relay set.found set.under

-- a limit on operating times that are n1/q and n2/q at most and at least, in milliseconds: what holds of the ends in
-- nanoseconds holds of the times
waits_enough : (db dp lb up n1 n2 q asked granted : ℕ) → dp * up + asked * 1000000000 ≤ db * lb + granted * 1000000000 → lb * q ≤ n1 * 1000000000 → n2 * 1000000000 ≤ up * q
    → dp * n2 + asked * q ≤ db * n1 + granted * q
waits_enough db dp lb up n1 n2 q asked granted met over under =
    let gap : (dp * up + asked * 1000000000) * q ≤ (db * lb + granted * 1000000000) * q = mul-le-mul_right q met in
    let backup : db * (lb * q) ≤ db * (n1 * 1000000000) = mul-le-mul_left db over in
    let primary : dp * (n2 * 1000000000) ≤ dp * (up * q) = mul-le-mul_left dp under in
    let whole : 1000000000 * (dp * n2 + asked * q) ≤ 1000000000 * (db * n1 + granted * q) = omega (arith, gap, backup, primary) in
    le_of_mul-le-mul_left whole (omega arith)

-- times meet what a row of this kind asks for, where it has these relays
abbrev pub MeetsKind : RowKind → StudyData → Row → ℕ → ℕ → Type 0
MeetsKind kind study row backup primary =
    fast_part kind primary + asked_ms kind study row * 1000000000 ≤ slow_part kind backup + granted_ms kind study row * 1000000000

-- with two relays that are one, unless the row is an interval row
module _ (case : Case) (settings : Settings) (row : Row) (backup : IsEnclosed case row.fault row.backup (slice_index settings.pickup row.backup)) (primary : IsEnclosed case row.fault row.primary (slice_index settings.pickup row.primary)) where
  -- a row that is strictly met is kept
  strict_kind : (kind : RowKind) → (kind ≡ Interval) ⊎ (row.backup ≡ row.primary) → MeetsKind kind case.study row (least_ps case settings row.fault row.backup) (greatest_ps case settings row.fault row.primary)
      → KeepsKind kind case.study case.currents settings row
  strict_kind Interval one met = λ n1 n2 q some over under.
      let enough = waits_enough (dial_of case.study settings row.backup) (dial_of case.study settings row.primary)
      (time_of case settings row.fault row.backup).lower (time_of case settings row.fault row.primary).upper n1 n2 q (cti_of case.study row.backup row.primary) 0 (omega (arith, met))
      (over_least case settings row.fault row.backup n1 q backup over) (under_most case settings row.fault row.primary n2 q primary under) in
      omega (arith, enough)
  strict_kind Least one met = λ n q some over. elim one [
    | inl other ↦ absurd cc
    | inr same ↦
        let P : ℕ → Type 0 = λ i. IsOverTime case.study case.currents settings row.fault i n q in
        let enough = waits_enough (dial_of case.study settings row.backup) 0 (time_of case settings row.fault row.backup).lower 0 n 0 q (least_ms_of case.study row.primary) 0 (omega (arith, met))
        (over_least case settings row.fault row.backup n q backup (subst P (sym same) over)) (omega arith) in
        omega (arith, enough, ap (λ (i : ℕ). dial_of case.study settings i * n) same)
  ]
  strict_kind Most one met = λ n q some under.
      let enough = waits_enough 0 (dial_of case.study settings row.primary) 0 (time_of case settings row.fault row.primary).upper 0 n q 0 (most_ms_of case.study row.primary) (omega (arith, met))
      (omega arith) (under_most case settings row.fault row.primary n q primary under) in
      omega (arith, enough)

  -- a row that is kept is loosely met
  kept_kind : (kind : RowKind) → (kind ≡ Interval) ⊎ (row.backup ≡ row.primary) → KeepsKind kind case.study case.currents settings row
      → MeetsKind kind case.study row (greatest_ps case settings row.fault row.backup) (least_ps case settings row.fault row.primary)
  kept_kind Interval one keeps =
      let met = keeps (time_of case settings row.fault row.backup).upper (time_of case settings row.fault row.primary).lower (10 ^ 9) (omega arith)
      (upper_over case settings row.fault row.backup backup) (lower_under case settings row.fault row.primary primary) in
      omega (arith, met)
  kept_kind Least one keeps = elim one [
    | inl other ↦ absurd cc
    | inr same ↦
        let met = keeps (time_of case settings row.fault row.primary).upper (10 ^ 9) (omega arith) (upper_over case settings row.fault row.primary primary) in
        omega (arith, met, ap (λ (i : ℕ). greatest_ps case settings row.fault i) same)
  ]
  kept_kind Most one keeps =
      let met = keeps (time_of case settings row.fault row.primary).lower (10 ^ 9) (omega arith) (lower_under case settings row.fault row.primary primary) in
      omega (arith, met)

  pub strict_keeps : (row.kind ≡ Interval) ⊎ (row.backup ≡ row.primary) → MeetsStrictly case settings row → Keeps case.study case.currents settings row
  strict_keeps one met = strict_kind row.kind one met

  pub kept_meets : (row.kind ≡ Interval) ⊎ (row.backup ≡ row.primary) → Keeps case.study case.currents settings row → MeetsLoosely case settings row
  kept_meets one keeps = kept_kind row.kind one keeps

  -- the loose margin lies above the strict one by no more than the widths make
  near_kind : (kind : RowKind) → let db = dial_of case.study settings row.backup in let dp = dial_of case.study settings row.primary in
      slow_part kind (greatest_ps case settings row.fault row.backup) + fast_part kind (greatest_ps case settings row.fault row.primary)
      ≤ slow_part kind (least_ps case settings row.fault row.backup) + fast_part kind (least_ps case settings row.fault row.primary)
      + (slow_part kind (db * width_at case row.backup) + fast_part kind (dp * width_at case row.primary))
  near_kind kind =
      let slow : greatest_ps case settings row.fault row.backup ≤ least_ps case settings row.fault row.backup + dial_of case.study settings row.backup * width_at case row.backup =
      omega (arith, mul-le-mul_left (dial_of case.study settings row.backup) backup.narrow) in
      let fast : greatest_ps case settings row.fault row.primary ≤ least_ps case settings row.fault row.primary + dial_of case.study settings row.primary * width_at case row.primary =
      omega (arith, mul-le-mul_left (dial_of case.study settings row.primary) primary.narrow) in
      elim kind as (λ k. slow_part k (greatest_ps case settings row.fault row.backup) + fast_part k (greatest_ps case settings row.fault row.primary)
      ≤ slow_part k (least_ps case settings row.fault row.backup) + fast_part k (least_ps case settings row.fault row.primary)
      + (slow_part k (dial_of case.study settings row.backup * width_at case row.backup) + fast_part k (dial_of case.study settings row.primary * width_at case row.primary))) [
        | Interval ↦ omega (arith, slow, fast)
        | Least ↦ omega (arith, slow)
        | Most ↦ omega (arith, fast)
      ]

  pub margins_near : loose_margin case settings row ≤ℤ (strict_margin case settings row +ℤ pos (row_width case settings row))
  unfolding loose_margin strict_margin
  margins_near = omega (arith, ints, near_kind row.kind)
