use Rattle.std.proofs.Common.{◌≡◌, [], drop, vec_len, All}
use Rattle.coord_model.specs.PartLimits.{FitsFault}
use Rattle.network_file.specs.Fault.{each_after}
use Rattle.network_file.specs.Fits.{study_with}
use Rattle.network_file.specs.Names.{fault_names}
use Rattle.network_file.specs.Study.{next_fault}
use Rattle.network_file.proofs.study.faults_of.Given as goal

abbrev pub invariant-loop-entry : goal.invariant-loop-entry
invariant-loop-entry l = record {
  counted : vec_len l.faults ≡ l.entry-index;
  named : l.names.keys ≡ fault_names l.faults.items;
  so_far : each_after (next_fault l.grid.lines.items) l.faults.items (drop l.entry-index l.entries) ≡ each_after (next_fault l.grid.lines.items) [] l.entries;
  fits : All (FitsFault (study_with l.grid.buses.keys l.grid.lines.items [])) l.faults.items;
}
