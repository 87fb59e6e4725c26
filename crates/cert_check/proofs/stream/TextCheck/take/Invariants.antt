use Rattle.std.proofs.Common.{ℕ, List, ◌++◌, take}
use Rattle.cert_check.specs.Streams.{Reads}
use Rattle.cert_check.proofs.stream.TextCheck.take.Given as goal

abbrev pub invariant-loop-byte : goal.invariant-loop-byte
invariant-loop-byte l = record {
  known : (read : List ℕ) × Reads l.inst l.self read l.self.lines.fault;
  reads : (read : List ℕ) → Reads l.inst l.initial.self read l.initial.self.lines.fault → Reads l.inst l.self (read ++ take l.byte-index l.piece) l.self.lines.fault;
}
