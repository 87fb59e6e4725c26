-- Which relays back which. The usual rule of directional relays; that parallel lines back each other by it, and the exempt
-- pairs, are ours.
use Rattle.std.specs.Prelude.{ℕ, Bool, false, ◌||◌, ◌&&◌, ◌==◌, not, Option, Some, None, List, length, map, filter, slice_get}
use Rattle.std.specs.List.{range_with_len, flat_map, list_any}
use Rattle.coord_model.specs.StudyData.{StudyData}
use Rattle.coord_model.specs.declared.study.Line.{Line}
use Rattle.coord_model.specs.declared.study.Pair.{Pair}
use Rattle.coord_model.specs.declared.study.Relay.{Relay}

-- the line has an end at the bus
abbrev pub ends_at : Option Line → ℕ → Bool
ends_at None bus = false
ends_at (Some line) bus = (line.from == bus) || (line.to == bus)

-- the pair of relays is exempt
abbrev pub is_exempt : StudyData → ℕ → ℕ → Bool
is_exempt study b p = list_any (λ e. (e.backup == b) && (e.primary == p)) study.exempt

-- a relay that stands at the far end of another line which meets the primary's bus
abbrev pub looks_towards : StudyData → Option Relay → Option Relay → Bool
looks_towards study None primary = false
looks_towards study (Some backup) None = false
looks_towards study (Some backup) (Some primary) =
    not (backup.line == primary.line) && ends_at (slice_get study.lines backup.line) primary.bus && not (backup.bus == primary.bus)

-- relay b backs relay p
abbrev pub backs : StudyData → ℕ → ℕ → Bool
backs study b p = looks_towards study (slice_get study.relays b) (slice_get study.relays p) && not (is_exempt study b p)

-- the numbers of the relays
abbrev pub relay_numbers : StudyData → List ℕ
relay_numbers study = range_with_len 0 (length study.relays)

-- the pairs that back relay p, by backup
abbrev pub pairs_behind : StudyData → ℕ → List Pair
pairs_behind study p = map (λ b. record { backup = b; primary = p }) (filter (λ b. backs study b p) (relay_numbers study))

-- the pairs, by primary and then by backup
abbrev pub pairs_of : StudyData → List Pair
pairs_of study = flat_map (pairs_behind study) (relay_numbers study)
