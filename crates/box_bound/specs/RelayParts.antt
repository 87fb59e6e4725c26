-- The part of a relay in a dual value (ours), in picoseconds times lambda: the least that its times
-- count, over its pickup steps and the two ends of its dials. A time counts for its cost times
-- lambda, and for the rows by their weights: for those that ask its relay to be fast with the lower
-- end, against those that ask it to be slow with the upper end.
use Rattle.std.specs.Prelude.{◌≡◌, ℕ, suc, ◌+◌, ◌*◌, ◌==◌, ◌⊎◌, ℤ, pos, ◌-ℤ◌, ◌≤ℤ◌, List, sum_by, if◌then◌else◌}
use Rattle.coord_model.specs.Dial.{dial_at_step}
use Rattle.coord_model.specs.declared.weights.Weight.{Weight}
use Rattle.margin_rows.specs.Box.{Box, IsIn}
use Rattle.margin_rows.specs.Case.{Case, row_at}
use Rattle.margin_rows.specs.Demands.{fast_part, slow_part}
use Rattle.margin_rows.specs.Price.{term_sum}
use Rattle.margin_rows.specs.Times.{time_at}
use Rattle.margin_rows.specs.Within.{span_of}
use Rattle.margin_rows.specs.declared.span.Steps.{Steps}

-- the pickup steps of relay i, and its dial steps
abbrev pub pickups_of : Box → ℕ → Steps
pickups_of box i = span_of box.pickup i

abbrev pub dials_of : Box → ℕ → Steps
dials_of box i = span_of box.dial i

-- the time of relay i by the weight of a row that asks it to be fast
abbrev pub primary_part : Case → ℕ → ℕ → Weight → ℕ
primary_part case i step w =
    let row = row_at case w.row in
    if row.primary == i then fast_part row.kind (w.weight * (time_at case row.fault i step).lower)
    else 0

-- the time of relay i by the weight of a row that asks it to be slow
abbrev pub backup_part : Case → ℕ → ℕ → Weight → ℕ
backup_part case i step w =
    let row = row_at case w.row in
    if row.backup == i then slow_part row.kind (w.weight * (time_at case row.fault i step).upper)
    else 0

-- what a unit of relay i's dial adds: lambda for its terms, and the weights of the rows that ask it
-- to be fast
abbrev pub gain : Case → ℕ → List Weight → ℕ → ℕ → ℕ
gain case lambda weights i step =
    lambda * term_sum case i step + sum_by (primary_part case i step) weights

-- what a unit of relay i's dial takes away: the weights of the rows that ask it to be slow
abbrev pub loss : Case → List Weight → ℕ → ℕ → ℕ
loss case weights i step = sum_by (backup_part case i step) weights

-- a gain less a loss, at a dial
abbrev pub at_dial : ℕ → ℕ → ℕ → ℤ
at_dial dial gained lost = pos (dial * gained) -ℤ pos (dial * lost)

-- the part of relay i in the dual value, at a pickup step and a dial step
abbrev pub part : Case → ℕ → List Weight → ℕ → ℕ → ℕ → ℤ
part case lambda weights i step dial =
    at_dial (dial_at_step case.study i dial)
    (gain case lambda weights i step) (loss case weights i step)

-- the step is the first or the last of a span
abbrev pub IsEnd : Steps → ℕ → Type 0
IsEnd span step = (step ≡ span.low) ⊎ (suc step ≡ span.past)

-- the least part of relay i over these pickup steps and the two ends of these dial steps: none is
-- less, and one is it
pub record IsLeastPart (case : Case) (lambda : ℕ) (weights : List Weight) (i : ℕ)
    (pickups dials : Steps) (least : ℤ) : Type 0 where
  pub none_less : (step dial : ℕ) → IsIn pickups step → IsEnd dials dial
      → least ≤ℤ part case lambda weights i step dial
  pub one : (step : ℕ) × (dial : ℕ) × IsIn pickups step × IsEnd dials dial
      × (least ≡ part case lambda weights i step dial)
