use Rattle.std.proofs.Common.{length}
use Rattle.cert_text.specs.Reading.{HasRead}
use Rattle.cert_text.proofs.reading.read_lines.Given as goal

abbrev pub invariant-loop-line : goal.invariant-loop-line
invariant-loop-line l = HasRead l.fn.bytes l.reading l.number l.left

abbrev pub decreases-loop-line : goal.decreases-loop-line
decreases-loop-line l = length l.left
