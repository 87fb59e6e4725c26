-- The limits of a study and its currents, and how their numbers hang together (ours).
use Rattle.std.specs.Prelude.{◌≡◌, ◌<◌, ◌≤◌, List, length, sum_by, All}
use Rattle.std.specs.List.{AllPairs}
use Rattle.coord_model.specs.PartLimits.{IsBetween, FitsLine, FitsRelay, FitsFault, FitsExempt, FitsInterval}
use Rattle.coord_model.specs.StudyData.{StudyData}
use Rattle.coord_model.specs.declared.study.Current.{Current}
use Rattle.coord_model.specs.declared.study.Relay.{Relay}

-- two relays stand at the same end of a line
pub record StandTogether (relay other : Relay) : Type 0 where
  pub line : relay.line ≡ other.line
  pub bus : relay.bus ≡ other.bus

-- the study is within the limits, its numbers name what is there, and an end of a line has one relay at most
pub record FitsStudy (study : StudyData) : Type 0 where
  pub format : IsBetween 1 study.format 4
  pub cti_ms : IsBetween 1 study.cti_ms 10000
  pub sense : IsBetween 105 study.sense 500
  pub cap : IsBetween 5 study.cap 30
  pub load_percent : IsBetween 100 study.load_percent 300
  pub bus_count : length study.buses ≤ 64
  pub line_count : IsBetween 1 (length study.lines) 64
  pub relay_count : IsBetween 1 (length study.relays) 96
  pub fault_count : length study.faults ≤ 256
  pub exempt_count : length study.exempt ≤ 1024
  pub interval_count : length study.intervals ≤ 1024
  pub pickup_steps : sum_by (λ relay. relay.plug_count) study.relays ≤ 3072
  pub lines : All (FitsLine study) study.lines
  pub relays : All (FitsRelay study) study.relays
  pub apart : AllPairs (λ relay other. ¬ (StandTogether relay other)) study.relays
  pub faults : All (FitsFault study) study.faults
  pub exempt : All (FitsExempt study) study.exempt
  pub intervals : All (FitsInterval study) study.intervals

-- the entry is for a fault and a relay of the study, within the limit
pub record FitsCurrent (study : StudyData) (entry : Current) : Type 0 where
  pub fault : entry.fault < length study.faults
  pub relay : entry.relay < length study.relays
  pub amps : entry.amps ≤ 100000

-- the currents are within the limits
pub record FitsCurrents (study : StudyData) (entries : List Current) : Type 0 where
  pub few : length entries ≤ 8192
  pub each : All (FitsCurrent study) entries
