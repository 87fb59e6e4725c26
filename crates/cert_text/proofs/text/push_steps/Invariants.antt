use Rattle.std.proofs.Common.{◌≡◌, ◌≤◌, ◌++◌, take, vec_capacity}
use Rattle.cert_text.specs.CertText.{step_words}
use Rattle.cert_text.proofs.text.push_steps.Given as goal

abbrev pub invariant-loop-i : goal.invariant-loop-i
invariant-loop-i l =
    (l.out.items ≡ l.initial.out.items ++ step_words (take l.i l.pickup) (take l.i l.dial)) × (vec_capacity l.initial.out ≤ vec_capacity l.out)
