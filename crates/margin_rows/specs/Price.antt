-- The cost of settings in whole weighted microseconds, from the ends of the enclosures (ours).
use Rattle.std.specs.Prelude.{ℕ, ◌*◌, ◌/◌, ◌==◌, sum_by, if◌then◌else◌}
use Rattle.std.specs.Int.{div_ceil}
use Rattle.coord_model.specs.Choice.{Settings}
use Rattle.coord_model.specs.Cost.{weight_of, weighted_sum}
use Rattle.coord_model.specs.Dial.{dial_of}
use Rattle.coord_model.specs.declared.study.Term.{Term}
use Rattle.margin_rows.specs.Case.{Case, terms_in}
use Rattle.margin_rows.specs.Margin.{time_of}
use Rattle.margin_rows.specs.Times.{time_at}

-- the least weighted time of a term, in weighted picoseconds
abbrev pub least_part : Case → Settings → Term → ℕ
least_part case settings term =
    weight_of case.study term.fault * dial_of case.study settings term.relay * (time_of case settings term.fault term.relay).lower

-- the greatest weighted time of a term
abbrev pub greatest_part : Case → Settings → Term → ℕ
greatest_part case settings term =
    weight_of case.study term.fault * dial_of case.study settings term.relay * (time_of case settings term.fault term.relay).upper

-- the weighted sum of the primary operating times at their upper ends, in weighted picoseconds
abbrev pub greatest_sum : Case → Settings → ℕ
greatest_sum case settings =
    weighted_sum case.study case.currents settings (λ term. (time_of case settings term.fault term.relay).upper)

-- the same at their lower ends
abbrev pub least_sum : Case → Settings → ℕ
least_sum case settings =
    weighted_sum case.study case.currents settings (λ term. (time_of case settings term.fault term.relay).lower)

-- the cost, rounded up
unfoldable pub cost_of : Case → Settings → ℕ
cost_of case settings = div_ceil (greatest_sum case settings) 1000000

-- the least that the settings can cost, rounded down
unfoldable pub lower_cost_of : Case → Settings → ℕ
lower_cost_of case settings = least_sum case settings / 1000000

-- the weighted time of relay i at a pickup step and dial 1, at its lower end, where the term is its own
abbrev pub term_part : Case → ℕ → ℕ → Term → ℕ
term_part case i step term =
    if term.relay == i then weight_of case.study term.fault * (time_at case term.fault i step).lower else 0

-- the sum of these over the terms: what a unit of relay i's dial counts in the cost
abbrev pub term_sum : Case → ℕ → ℕ → ℕ
term_sum case i step = sum_by (term_part case i step) (terms_in case)
