use Rattle.std.proofs.Common.{◌≡◌, ◌+◌, ◌≤◌, ◌^◌, take}
use Rattle.fault_table.specs.Entry.{value_of}
use Rattle.fault_table.proofs.entry.value_of.Given as goal

abbrev pub invariant-loop-digit : goal.invariant-loop-digit
invariant-loop-digit l = (l.value ≡ value_of (take l.digit-index l.digits)) × (l.value + 1 ≤ 10 ^ l.digit-index)
