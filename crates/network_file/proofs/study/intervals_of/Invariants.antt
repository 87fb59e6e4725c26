use Rattle.std.proofs.Common.{◌≡◌, [], length, drop, vec_len, All}
use Rattle.network_file.specs.Fault.{each_after}
use Rattle.network_file.specs.Fits.{IsIntervalBelow}
use Rattle.network_file.specs.Study.{next_interval}
use Rattle.network_file.proofs.study.intervals_of.Given as goal

abbrev pub invariant-loop-entry : goal.invariant-loop-entry
invariant-loop-entry l = record {
  counted : vec_len l.intervals ≡ l.entry-index;
  so_far : each_after (next_interval l.relay_names.keys) l.intervals.items (drop l.entry-index l.entries) ≡ each_after (next_interval l.relay_names.keys) [] l.entries;
  within : All (IsIntervalBelow (length l.relay_names.keys)) l.intervals.items;
}
