use Rattle.std.proofs.Common.{take}
use Rattle.std.specs.List.{Contains}
use Rattle.margin_rows.specs.Reach.{AreReaches}
use Rattle.margin_rows.proofs.spans.leave_terms.Given as goal

abbrev pub invariant-loop-term : goal.invariant-loop-term
invariant-loop-term l = AreReaches l.given (λ f i. Contains (take l.term-index l.terms) (record { fault = f; relay = i })) l.reach
