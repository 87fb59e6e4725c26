use Rattle.std.proofs.Common.{◌≡◌, [], length, drop, vec_len, All}
use Rattle.network_file.specs.Fault.{each_after}
use Rattle.network_file.specs.Fits.{IsPairBelow}
use Rattle.network_file.specs.Study.{next_exempt}
use Rattle.network_file.proofs.study.exempt_of.Given as goal

abbrev pub invariant-loop-entry : goal.invariant-loop-entry
invariant-loop-entry l = record {
  counted : vec_len l.exempt ≡ l.entry-index;
  so_far : each_after (next_exempt l.relay_names.keys) l.exempt.items (drop l.entry-index l.entries) ≡ each_after (next_exempt l.relay_names.keys) [] l.entries;
  within : All (IsPairBelow (length l.relay_names.keys)) l.exempt.items;
}
