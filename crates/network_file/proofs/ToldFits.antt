-- What is told of a study within the limits is within the limits of each table.
use Rattle.std.proofs.Common.{◌<◌, map, All, arith}
use Rattle.std.proofs.lemmas.List.{length-map}
use Rattle.std.proofs.lemmas.List.Elements.{All-map, All-weaker}
use Rattle.coord_model.specs.PartLimits.{FitsRelay, FitsFault, FitsInterval}
use Rattle.coord_model.specs.Limits.{FitsStudy}
use Rattle.coord_model.specs.StudyData.{StudyData}
use Rattle.coord_model.specs.declared.study.Fault.{Fault}
use Rattle.coord_model.specs.declared.study.PairInterval.{PairInterval}
use Rattle.coord_model.specs.declared.study.Relay.{Relay}
use Rattle.network_file.specs.EntryLimits.{RelayKeeps, RelaySuits, FaultKeeps, IntervalKeeps, IntervalsSuit, ToldKeeps}
use Rattle.network_file.specs.Named.{relay_told, fault_told, interval_told, told_of}
use Rattle.network_file.specs.Rules.{HasNamedCurve, HasNoTimes, IsInFormat}
use Rattle.network_file.proofs.CurveFits.{fits_keeps}
use Rattle.network_file.specs.Names.{line_names, relay_names}

module _ (study : StudyData) where
  relay_keeps : (relay : Relay) → FitsRelay study relay → RelayKeeps (relay_told study.buses (line_names study.lines) relay)
  relay_keeps relay h = record {
    curve = fits_keeps relay.curve h.curve;
    ct_primary = h.ct_primary;
    ct_secondary = h.ct_secondary;
    plug_first = h.plug_first;
    plug_step = h.plug_step;
    plug_count = h.plug_count;
    dial_first = h.dial_first;
    dial_step = h.dial_step;
    dial_count = h.dial_count;
    load_amps = record { at_least = omega arith; at_most = h.load_amps };
    least_ms = record { at_least = omega arith; at_most = h.least_ms };
    most_ms = record { at_least = omega arith; at_most = h.most_ms };
  }

  relays_suit : All (FitsRelay study) study.relays → (study.format < 2 → All HasNoTimes study.relays) → (study.format < 4 → All HasNamedCurve study.relays)
      → All (RelaySuits study.format) (map (relay_told study.buses (line_names study.lines)) study.relays)
  relays_suit fits no_times named =
      All-map (RelaySuits study.format) (relay_told study.buses (line_names study.lines)) study.relays
      (λ k d within. record {
        keeps = relay_keeps _ (fits k d within);
        no_times = λ first. ((no_times first k d within).least_ms, (no_times first k d within).most_ms);
        named = λ early. named early k d within;
      })

  fault_keeps : (fault : Fault) → FitsFault study fault → FaultKeeps (fault_told (line_names study.lines) fault)
  fault_keeps fault h = h.weight

  interval_keeps : (own : PairInterval) → FitsInterval study own → IntervalKeeps (interval_told (relay_names study.relays) own)
  interval_keeps own h = h.cti_ms

  pub told_keeps : FitsStudy study → IsInFormat study → ToldKeeps (told_of study)
  told_keeps fits in_format = record {
    format = fits.format;
    study = record { cti_ms = fits.cti_ms; sense = fits.sense; cap = fits.cap; load_percent = fits.load_percent };
    line_count = rw length-map fits.line_count;
    relay_count = rw length-map fits.relay_count;
    relays = relays_suit fits.relays in_format.no_times in_format.named;
    fault_count = rw length-map fits.fault_count;
    faults = All-map FaultKeeps (fault_told (line_names study.lines)) study.faults
        (All-weaker (FitsFault study) (λ fault. FaultKeeps (fault_told (line_names study.lines) fault)) fault_keeps study.faults fits.faults);
    exempt_count = rw length-map fits.exempt_count;
    interval_count = rw length-map fits.interval_count;
    intervals = All-map IntervalKeeps (interval_told (relay_names study.relays)) study.intervals
        (All-weaker (FitsInterval study) (λ own. IntervalKeeps (interval_told (relay_names study.relays) own)) interval_keeps study.intervals fits.intervals);
  }

  pub intervals_suit : IsInFormat study → IntervalsSuit (told_of study)
  intervals_suit in_format early = rw (in_format.no_intervals early)
