use Rattle.std.proofs.Common.{◌≡◌, [], drop, vec_len, All}
use Rattle.coord_model.specs.PartLimits.{FitsLine}
use Rattle.network_file.specs.Fault.{each_after}
use Rattle.network_file.specs.Fits.{study_with}
use Rattle.network_file.specs.Names.{line_names}
use Rattle.network_file.specs.Study.{next_line}
use Rattle.network_file.proofs.study.lines_of.Given as goal

abbrev pub invariant-loop-entry : goal.invariant-loop-entry
invariant-loop-entry l = record {
  counted : vec_len l.lines ≡ l.entry-index;
  named : l.names.keys ≡ line_names l.lines.items;
  so_far : each_after (next_line l.buses.keys) l.lines.items (drop l.entry-index l.entries) ≡ each_after (next_line l.buses.keys) [] l.entries;
  fits : All (FitsLine (study_with l.buses.keys [] [])) l.lines.items;
}
