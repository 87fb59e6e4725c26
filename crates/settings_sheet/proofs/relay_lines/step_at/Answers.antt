use Rattle.std.proofs.Common.{◌≡◌, ◌*◌, ◌%◌, ◌∙◌, ap, arith}
use Rattle.std.proofs.Math.Nat.{mul-mod_left}
use Rattle.settings_sheet.proofs.relay_lines.step_at.Goals as goal

pub returns-then-past-from-ne0-clause-no_such : goal.returns-then-past-from-ne0-clause-no_such
returns-then-past-from-ne0-clause-no_such c none at below is =
    let past : c.in_ok-past.past ≡ at * c.args.step = omega (arith, c.in_ok-past.ensures) in
    let step = c.from-2.ensures in
    c.if-past-from-ne0.true (ap (λ n. n % c.from-2.result) past ∙ ap (λ n. (at * c.args.step) % n) step ∙ mul-mod_left at c.args.step)
