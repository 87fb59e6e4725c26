use Rattle.std.proofs.Common.{◌+◌, ◌-◌, arith, ◌≡◌, ◌∙◌, ◌*◌, ◌<◌, ℕ, ap, get_or, set, subst}
use Rattle.coord_model.specs.Dial.{dial_at_step}
use Rattle.margin_rows.proofs.Raising.{longer_is_higher}
use Rattle.margin_rows.proofs.least.raise.Goals as goal

pub returns : goal.returns
returns c =
    let study = c.args.inst.now.study in
    let dials = c.args.dials.now in
    let wait = c.args.wait in
    let old : c.dial_at.result ≡ dial_at_step study wait.backup (get_or dials wait.backup 0) = c.dial_at.ensures.exact ∙ ap (λ (k : ℕ). dial_at_step study wait.backup (get_or dials k 0)) c.from-place.ensures in
    let Short : ℕ → Type 0 = λ d. d * wait.slow_time + wait.granted < c.due-due.result in
    let short = subst Short old c.if-due-spent.false in
    record {
      step = c.in-Some.step;
      on_step = c.in-Some.ensures.suffices.0;
      above = longer_is_higher study wait.backup (get_or dials wait.backup 0) c.in-Some.step wait.slow_time (c.due-due.result - wait.granted) (omega (arith, short)) c.in-Some.ensures.suffices.1;
      least = λ other on_step suffices. c.in-Some.ensures.least other on_step (omega (arith, suffices, c.due-due.ensures.exact));
      written = ap (λ (k : ℕ). set dials k c.in-Some.step) c.from-place.ensures;
    }
