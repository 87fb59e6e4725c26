-- The cost of settings: the weighted sum of the primary operating times (Urdaneta, Nadira and Perez, 1988),
-- in weighted microseconds.
use Rattle.std.specs.Prelude.{ℕ, ◌*◌, ◌<◌, ◌≤◌, List, slice_get, sum_by, All}
use Rattle.std.specs.Option.{option_map_or}
use Rattle.coord_model.specs.Allowed.{IsAllowed, IsOverTime, IsUnderTime}
use Rattle.coord_model.specs.Choice.{Settings}
use Rattle.coord_model.specs.Dial.{dial_of}
use Rattle.coord_model.specs.Rows.{terms_of}
use Rattle.coord_model.specs.StudyData.{StudyData}
use Rattle.coord_model.specs.declared.study.Current.{Current}
use Rattle.coord_model.specs.declared.study.Term.{Term}

-- the weight of a fault
abbrev pub weight_of : StudyData → ℕ → ℕ
weight_of study f = option_map_or (λ fault. fault.weight) (slice_get study.faults f) 0

-- the sum over the terms of weight times dial times n
abbrev pub weighted_sum : StudyData → List Current → Settings → (Term → ℕ) → ℕ
weighted_sum study currents settings n =
    sum_by (λ term. weight_of study term.fault * dial_of study settings term.relay * n term) (terms_of study currents)

-- the settings cost at least `bound`: no estimates from above add up to less
abbrev pub CostsAtLeast : StudyData → List Current → Settings → ℕ → Type 0
CostsAtLeast study currents settings bound =
    (q : ℕ) (n : Term → ℕ) → 0 < q
    → All (λ term. IsOverTime study currents settings term.fault term.relay (n term) q) (terms_of study currents)
    → bound * q ≤ 1000 * weighted_sum study currents settings n

-- all allowed settings cost at least `bound`
abbrev pub IsBelowAll : StudyData → List Current → ℕ → Type 0
IsBelowAll study currents bound =
    (settings : Settings) → IsAllowed study currents settings → CostsAtLeast study currents settings bound

-- the settings cost at most `cost`: no estimates from below add up to more
abbrev pub CostsAtMost : StudyData → List Current → Settings → ℕ → Type 0
CostsAtMost study currents settings cost =
    (q : ℕ) (n : Term → ℕ) → 0 < q
    → All (λ term. IsUnderTime study currents settings term.fault term.relay (n term) q) (terms_of study currents)
    → 1000 * weighted_sum study currents settings n ≤ cost * q
