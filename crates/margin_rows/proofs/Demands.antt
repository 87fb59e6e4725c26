-- What rows ask for lies within the limits.
use Rattle.std.specs.Prelude.{◌&&◌, ◌==◌, slice_get}
use Rattle.std.specs.List.{All, find}
use Rattle.std.specs.Option.{option_map_or}
use Rattle.std.proofs.Common.{◌≡◌, ℕ, ◌*◌, ◌^◌, ◌≤◌, Bool, true, false, cond, List, [], ◌∷◌, Some, None, Option, arith, refl, ap, ◌∙◌, ◌<◌, get_or, length, map}
use Rattle.std.proofs.lemmas.List.{get_or-map}
use Rattle.std.proofs.lemmas.List.Elements.{All-head, All-tail}
use Rattle.coord_model.specs.Limits.{FitsStudy}
use Rattle.coord_model.specs.PartLimits.{FitsInterval, FitsRelay}
use Rattle.coord_model.specs.StudyData.{StudyData}
use Rattle.coord_model.specs.declared.study.PairInterval.{PairInterval}
use Rattle.coord_model.specs.declared.study.Relay.{Relay}
use Rattle.coord_model.specs.declared.study.Row.{Row}
use Rattle.coord_model.specs.declared.study.RowKind.{RowKind}
use Rattle.coord_model.specs.declared.study.RowKind.TheVariants.{Interval, Least, Most}
use Rattle.margin_rows.specs.Case.{Case, rows_in, row_at}
use Rattle.margin_rows.specs.Demands.{asked_ms, granted_ms, asked_ps, granted_ps, demand_of}
use Rattle.margin_rows.specs.declared.demand.Demand.{Demand}
use Rattle.margin_rows.proofs.Timed.{at_place}

-- an interval that is found is within the limits
interval_few : (study : StudyData) (test : PairInterval → Bool) (own : List PairInterval) → study.cti_ms ≤ 10000 → All (FitsInterval study) own
    → option_map_or (λ (o : PairInterval). o.cti_ms) (find test own) study.cti_ms ≤ 10000
interval_few study test [] few fits = few
interval_few study test (own ∷ others) few fits =
    one own (test own) (All-head (FitsInterval study) own others fits).cti_ms.at_most (interval_few study test others few (All-tail (FitsInterval study) own others fits))
  where
    one : (own : PairInterval) (b : Bool) → own.cti_ms ≤ 10000 → option_map_or (λ (o : PairInterval). o.cti_ms) (find test others) study.cti_ms ≤ 10000
        → option_map_or (λ (o : PairInterval). o.cti_ms) (cond b (Some own) (find test others)) study.cti_ms ≤ 10000
    one own true first rest = first
    one own false first rest = rest

-- a number of a relay is within its limit
relay_few : (study : StudyData) (number : Relay → ℕ) (limit i : ℕ) → ((relay : Relay) → FitsRelay study relay → number relay ≤ limit) → FitsStudy study → option_map_or number (slice_get study.relays i) 0 ≤ limit
relay_few study number limit i few fits = go (slice_get study.relays i) refl
  where
    go : (o : Option Relay) → slice_get study.relays i ≡ o → option_map_or number o 0 ≤ limit
    go None found = omega arith
    go (Some relay) found = few relay (at_place (FitsRelay study) study.relays i relay fits.relays found)

asked_few : (study : StudyData) (row : Row) (kind : RowKind) → FitsStudy study → asked_ms kind study row ≤ 100000
asked_few study row Interval fits = let few = interval_few study (λ own. (own.backup == row.backup) && (own.primary == row.primary)) study.intervals fits.cti_ms.at_most fits.intervals in omega (arith, few)
asked_few study row Least fits = relay_few study (λ relay. relay.least_ms) 100000 row.primary (λ relay is. is.least_ms) fits
asked_few study row Most fits = omega arith

granted_few : (study : StudyData) (row : Row) (kind : RowKind) → FitsStudy study → granted_ms kind study row ≤ 20000000
granted_few study row Interval fits = omega arith
granted_few study row Least fits = omega arith
granted_few study row Most fits = relay_few study (λ relay. relay.most_ms) 20000000 row.primary (λ relay is. is.most_ms) fits

pub asked_small : (study : StudyData) (row : Row) → FitsStudy study → asked_ps study row ≤ 10 ^ 14
asked_small study row fits = omega (arith, asked_few study row row.kind fits)

pub granted_small : (study : StudyData) (row : Row) → FitsStudy study → granted_ps study row ≤ 2 * 10 ^ 16
granted_small study row fits = omega (arith, granted_few study row row.kind fits)

-- the demand that the code reads
pub demand_read : (case : Case) (demands : List Demand) (i row : ℕ) (x : Demand) → demands ≡ map (demand_of case.study) (rows_in case) → i ≡ row → row < length (rows_in case) → x ≡ get_or demands i x → x ≡ demand_of case.study (row_at case row)
demand_read case demands i row x same is below read =
    read ∙ ap (λ (k : ℕ). get_or demands k x) is ∙ ap (λ (ds : List Demand). get_or ds row x) same ∙ get_or-map (demand_of case.study) (rows_in case) row _ x below
