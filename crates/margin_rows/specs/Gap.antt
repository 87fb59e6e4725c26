-- The least gap (ours): so much at most lies between the printed cost of settings and the least that they can cost.
-- It comes from the widths of the enclosures.
use Rattle.std.specs.Prelude.{◌≡◌, ℕ, ◌+◌, ◌-◌, ◌*◌, ◌≤◌, ◌⊎◌, List, [], ◌∷◌, slice_get}
use Rattle.std.specs.Int.{div_ceil}
use Rattle.std.specs.Option.{option_map_or}
use Rattle.coord_model.specs.Cost.{weight_of}
use Rattle.coord_model.specs.StudyData.{StudyData}
use Rattle.coord_model.specs.Time.{dial_at}
use Rattle.coord_model.specs.declared.study.Term.{Term}
use Rattle.margin_rows.specs.Case.{Case, terms_in}
use Rattle.margin_rows.specs.FirstBox.{IsFirstStep}
use Rattle.margin_rows.specs.Times.{time_at}

-- the greatest width of a relay's enclosures at a fault, over its pickup steps in the first box: no enclosure is
-- wider, and one is as wide; or 0, where there is no step
pub record IsGreatestWidth (case : Case) (fault relay width : ℕ) : Type 0 where
  pub no_wider : (step : ℕ) → IsFirstStep case relay step → (time_at case fault relay step).upper ≤ (time_at case fault relay step).lower + width
  pub as_wide : (width ≡ 0) ⊎ ((step : ℕ) × IsFirstStep case relay step × ((time_at case fault relay step).upper ≡ (time_at case fault relay step).lower + width))

-- the last dial of relay i, in thousandths
abbrev pub last_dial : StudyData → ℕ → ℕ
last_dial study i = option_map_or (λ relay. dial_at relay (relay.dial_count - 1)) (slice_get study.relays i) 0

-- a width at the weight and the last dial of a term, in weighted picoseconds
abbrev pub width_part : Case → Term → ℕ → ℕ
width_part case term width = weight_of case.study term.fault * last_dial case.study term.relay * width

-- the greatest widths of the terms, each at its weight and last dial, add up to the sum
abbrev pub AddsUpTo : Case → List Term → ℕ → Type 0
AddsUpTo case [] sum = sum ≡ 0
AddsUpTo case (term ∷ terms) sum =
    (width : ℕ) × (others : ℕ) × IsGreatestWidth case term.fault term.relay width × AddsUpTo case terms others
    × (sum ≡ width_part case term width + others)

-- the sum over the terms of weight times last dial times greatest width
abbrev pub IsWidthSum : Case → ℕ → Type 0
IsWidthSum case sum = AddsUpTo case (terms_in case) sum

-- the least gap: that sum in whole weighted microseconds, rounded up, and one more
abbrev pub IsLeastGap : Case → ℕ → Type 0
IsLeastGap case gap = (sum : ℕ) × IsWidthSum case sum × (gap ≡ div_ceil sum 1000000 + 1)

-- the gap is at least the least gap
pub record IsGapEnough (case : Case) (gap : ℕ) : Type 0 where
  pub least : ℕ
  pub exact : IsLeastGap case least
  pub at_least : least ≤ gap
