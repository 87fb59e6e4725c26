-- The limits of a study's parts speak of its buses, lines and relays alone.
use Rattle.std.proofs.Common.{[], length, All}
use Rattle.std.proofs.lemmas.List.Elements.{All-weaker}
use Rattle.coord_model.specs.PartLimits.{FitsLine, FitsRelay, FitsFault, FitsExempt, FitsInterval}
use Rattle.coord_model.specs.StudyData.{StudyData}
use Rattle.coord_model.specs.declared.study.Exempt.{Exempt}
use Rattle.coord_model.specs.declared.study.Fault.{Fault}
use Rattle.coord_model.specs.declared.study.Line.{Line}
use Rattle.coord_model.specs.declared.study.PairInterval.{PairInterval}
use Rattle.coord_model.specs.declared.study.Relay.{Relay}
use Rattle.network_file.specs.Fits.{study_with, IsPairBelow, IsIntervalBelow}

module _ (study : StudyData) where
  line_fits : (line : Line) → FitsLine (study_with study.buses [] []) line → FitsLine study line
  line_fits line h = record { from = h.from; to = h.to; no_loop = h.no_loop }

  relay_fits : (relay : Relay) → FitsRelay (study_with study.buses study.lines []) relay → FitsRelay study relay
  relay_fits relay h = record {
    on_line = h.on_line;
    at_end = h.at_end;
    curve = h.curve;
    ct_primary = h.ct_primary;
    ct_secondary = h.ct_secondary;
    plug_first = h.plug_first;
    plug_step = h.plug_step;
    plug_count = h.plug_count;
    last_plug = h.last_plug;
    dial_first = h.dial_first;
    dial_step = h.dial_step;
    dial_count = h.dial_count;
    last_dial = h.last_dial;
    load_amps = h.load_amps;
    least_ms = h.least_ms;
    most_ms = h.most_ms;
  }

  fault_fits : (fault : Fault) → FitsFault (study_with study.buses study.lines []) fault → FitsFault study fault
  fault_fits fault h = record { on_line = h.on_line; weight = h.weight }

  pair_fits : (pair : Exempt) → IsPairBelow (length study.relays) pair → FitsExempt study pair
  pair_fits pair h = record { backup = h.backup; primary = h.primary }

  interval_fits : (own : PairInterval) → IsIntervalBelow (length study.relays) own → FitsInterval study own
  interval_fits own h = record { backup = h.backup; primary = h.primary; cti_ms = h.cti_ms }

  pub lines_fit : All (FitsLine (study_with study.buses [] [])) study.lines → All (FitsLine study) study.lines
  lines_fit h = All-weaker _ (FitsLine study) line_fits study.lines h

  pub relays_fit : All (FitsRelay (study_with study.buses study.lines [])) study.relays → All (FitsRelay study) study.relays
  relays_fit h = All-weaker _ (FitsRelay study) relay_fits study.relays h

  pub faults_fit : All (FitsFault (study_with study.buses study.lines [])) study.faults → All (FitsFault study) study.faults
  faults_fit h = All-weaker _ (FitsFault study) fault_fits study.faults h

  pub pairs_fit : All (IsPairBelow (length study.relays)) study.exempt → All (FitsExempt study) study.exempt
  pairs_fit h = All-weaker _ (FitsExempt study) pair_fits study.exempt h

  pub intervals_fit : All (IsIntervalBelow (length study.relays)) study.intervals → All (FitsInterval study) study.intervals
  intervals_fit h = All-weaker _ (FitsInterval study) interval_fits study.intervals h
