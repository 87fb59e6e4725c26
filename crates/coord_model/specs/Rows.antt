-- Which operating times count, where a backup has to wait (Urdaneta, Nadira and Perez, 1988), and which operating
-- times have a limit of their own (ours).
use Rattle.std.specs.Prelude.{ℕ, Bool, false, ◌&&◌, ◌==◌, nat_lt, Option, Some, None, List, [], ◌∷◌, ◌++◌, length, map, filter, slice_get, if◌then◌else◌}
use Rattle.std.specs.List.{range_with_len, flat_map}
use Rattle.std.specs.Option.{option_map_or}
use Rattle.coord_model.specs.Pairs.{backs, relay_numbers}
use Rattle.coord_model.specs.StudyData.{StudyData}
use Rattle.coord_model.specs.declared.study.Current.{Current}
use Rattle.coord_model.specs.declared.study.Fault.{Fault}
use Rattle.coord_model.specs.declared.study.Relay.{Relay}
use Rattle.coord_model.specs.declared.study.Row.{Row}
use Rattle.coord_model.specs.declared.study.RowKind.{RowKind}
use Rattle.coord_model.specs.declared.study.RowKind.TheVariants.{Interval, Least, Most}
use Rattle.coord_model.specs.declared.study.Term.{Term}

-- the numbers of the faults
abbrev pub fault_numbers : StudyData → List ℕ
fault_numbers study = range_with_len 0 (length study.faults)

-- the current of a relay at a fault: the amperes of an entry above 0 for both, or 0
abbrev pub amps_at : List Current → ℕ → ℕ → ℕ
amps_at [] f r = 0
amps_at (entry ∷ entries) f r =
    if (entry.fault == f) && (entry.relay == r) && nat_lt 0 entry.amps then entry.amps else amps_at entries f r

-- the relay stands on the fault's line
abbrev pub stands_on : Option Fault → Option Relay → Bool
stands_on None relay = false
stands_on (Some fault) None = false
stands_on (Some fault) (Some relay) = relay.line == fault.line

-- relay p clears fault f first: it stands on the fault's line and has a current at it
abbrev pub is_primary : StudyData → List Current → ℕ → ℕ → Bool
is_primary study currents f p =
    stands_on (slice_get study.faults f) (slice_get study.relays p) && nat_lt 0 (amps_at currents f p)

-- the terms of a fault, by relay
abbrev pub terms_at : StudyData → List Current → ℕ → List Term
terms_at study currents f = map (λ p. record { fault = f; relay = p }) (filter (is_primary study currents f) (relay_numbers study))

-- the terms, by fault and then by relay
abbrev pub terms_of : StudyData → List Current → List Term
terms_of study currents = flat_map (terms_at study currents) (fault_numbers study)

-- relay b has to wait for the primary p at fault f
abbrev pub waits : StudyData → List Current → ℕ → ℕ → ℕ → Bool
waits study currents f p b = backs study b p && nat_lt 0 (amps_at currents f b)

-- the interval rows of a primary at a fault, by backup
abbrev pub rows_behind : StudyData → List Current → ℕ → ℕ → List Row
rows_behind study currents f p =
    map (λ b. record { kind = Interval; fault = f; backup = b; primary = p }) (filter (waits study currents f p) (relay_numbers study))

-- the interval rows of a fault, by primary and then by backup
abbrev pub rows_at : StudyData → List Current → ℕ → List Row
rows_at study currents f =
    flat_map (rows_behind study currents f) (filter (is_primary study currents f) (relay_numbers study))

-- the interval rows, by fault, then by primary, then by backup
abbrev pub interval_rows : StudyData → List Current → List Row
interval_rows study currents = flat_map (rows_at study currents) (fault_numbers study)

-- the least and the greatest operating time of a relay at its primary faults, in milliseconds; 0 for no limit
abbrev pub least_ms_of : StudyData → ℕ → ℕ
least_ms_of study r = option_map_or (λ relay. relay.least_ms) (slice_get study.relays r) 0

abbrev pub most_ms_of : StudyData → ℕ → ℕ
most_ms_of study r = option_map_or (λ relay. relay.most_ms) (slice_get study.relays r) 0

-- the row of a kind that limits the time of a term
abbrev pub limit_row : RowKind → Term → Row
limit_row kind term = record { kind = kind; fault = term.fault; backup = term.relay; primary = term.relay }

-- the rows of the least times, by fault and then by relay
abbrev pub least_rows : StudyData → List Current → List Row
least_rows study currents =
    map (limit_row Least) (filter (λ term. nat_lt 0 (least_ms_of study term.relay)) (terms_of study currents))

-- the rows of the greatest times, by fault and then by relay
abbrev pub most_rows : StudyData → List Current → List Row
most_rows study currents =
    map (limit_row Most) (filter (λ term. nat_lt 0 (most_ms_of study term.relay)) (terms_of study currents))

-- the rows: the intervals, then the least times, then the greatest times
abbrev pub rows_of : StudyData → List Current → List Row
rows_of study currents = interval_rows study currents ++ least_rows study currents ++ most_rows study currents
