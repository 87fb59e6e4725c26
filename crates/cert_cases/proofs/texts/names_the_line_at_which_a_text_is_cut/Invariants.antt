use Rattle.std.proofs.Common.{◌≤◌}
use Rattle.cert_cases.proofs.texts.names_the_line_at_which_a_text_is_cut.Given as goal

abbrev pub invariant-loop-cut : goal.invariant-loop-cut
invariant-loop-cut g l = (1 ≤ l.line) × (l.line ≤ 12)
