use Rattle.std.proofs.Common.{rules, subst, sym}
use Rattle.margin_rows.specs.Box.{Box}
use Rattle.margin_rows.specs.Within.{IsWithin}
use Rattle.margin_rows.proofs.Within.{dial_within}
use Rattle.margin_rows.proofs.ranges.Ranges.set_dial.Goals as goal

pub returns-clause-exact : goal.returns-clause-exact
returns-clause-exact c = search rules

pub returns-clause-within : goal.returns-clause-within
returns-clause-within c = λ narrow.
    let box = c.args.self.now in
    subst (λ (b : Box). IsWithin b box) (sym (returns-clause-exact c)) (dial_within box c.args.relay (record { low = c.args.low; past = c.args.past }) c.requires narrow)
