use Rattle.std.proofs.Common.{refl, sym, subst, ◌∙◌}
use Rattle.std.specs.Prelude.{codes}
use Rattle.std.proofs.lemmas.List.{append_cancel_left}
use Rattle.coord_text.specs.Claims.{BoundGoesWith, amount}
use Rattle.coord_text.proofs.SameWords.{same_amount}
use Rattle.cert_text.proofs.HeadSteps.{bound_stops}
use Rattle.cert_text.proofs.head.next_bound.Goals as goal

pub returns-in_err-bound-clause-stops : goal.returns-in_err-bound-clause-stops
returns-in_err-bound-clause-stops c none = bound_stops c.args.head c.args.line.now (λ n short goes. c.in_err-bound.ensures.no_such refl n short)

pub returns-then-not-bound_goes_with-clause-stops : goal.returns-then-not-bound_goes_with-clause-stops
returns-then-not-bound_goes_with-clause-stops c none = bound_stops c.args.head c.args.line.now (λ n short goes is.
    let word = append_cancel_left (codes "bound ") (amount c.in_ok-bound.bound) (amount n) (sym c.in_ok-bound.ensures.said ∙ is) in
    let same = same_amount n c.in_ok-bound.bound short c.in_ok-bound.ensures.short (sym word) in
    cc (c.if-not-bound_goes_with.true, c.bound_goes_with.ensures.no (subst (BoundGoesWith c.args.head.ending) same goes)))
