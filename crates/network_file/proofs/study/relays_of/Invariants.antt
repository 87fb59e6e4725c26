use Rattle.std.proofs.Common.{◌≡◌, [], drop, vec_len, All}
use Rattle.std.specs.List.{AllPairs}
use Rattle.coord_model.specs.PartLimits.{FitsRelay}
use Rattle.coord_model.specs.Limits.{StandTogether}
use Rattle.network_file.specs.Fault.{each_after}
use Rattle.network_file.specs.Fits.{study_with}
use Rattle.network_file.specs.Names.{relay_names}
use Rattle.network_file.specs.Study.{next_relay}
use Rattle.network_file.proofs.study.relays_of.Given as goal

abbrev pub invariant-loop-entry : goal.invariant-loop-entry
invariant-loop-entry l = record {
  counted : vec_len l.relays ≡ l.entry-index;
  named : l.names.keys ≡ relay_names l.relays.items;
  so_far : each_after (next_relay l.grid.buses.keys l.grid.lines.items) l.relays.items (drop l.entry-index l.entries) ≡ each_after (next_relay l.grid.buses.keys l.grid.lines.items) [] l.entries;
  fits : All (FitsRelay (study_with l.grid.buses.keys l.grid.lines.items [])) l.relays.items;
  apart : AllPairs (λ relay other. ¬ (StandTogether relay other)) l.relays.items;
}
