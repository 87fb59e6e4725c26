use Rattle.std.proofs.Common.{◌∷◌, ◌++◌, arith, sym, ap, subst, ◌∙◌}
use Rattle.coord_model.specs.Tree.{shape}
use Rattle.cert_text.specs.Forests.{FitPath, below, waiting}
use Rattle.cert_text.proofs.Printed.{fit_below, waiting_length, waiting_more}
use Rattle.cert_text.proofs.printer.push_halves.Goals as goal

pub push_reserved-requires : goal.push_reserved-requires
push_reserved-requires c =
    let fit = subst (λ t. FitPath (t ∷ waiting c.args.path.now.items)) (ap shape c.in-Split.is) c.requires.fit in
    omega (arith, fit.0, waiting_length c.args.path.now.items, c.requires.room)

pub push_reserved-requires-in-Split : goal.push_reserved-requires-in-Split
push_reserved-requires-in-Split c =
    let fit = subst (λ t. FitPath (t ∷ waiting c.args.path.now.items)) (ap shape c.in-Split.is) c.requires.fit in
    omega (arith, fit.0, waiting_length c.args.path.now.items, c.requires.room, c.push_reserved.ensures.len, c.push_reserved.ensures.capacity)

pub returns-in-Split-clause-waits : goal.returns-in-Split-clause-waits
returns-in-Split-clause-waits c =
    let before = c.args.path.now.items in
    let high = c.deref.result in
    let low = c.deref-in-Split.result in
    let once = ap waiting c.push_reserved.ensures.items ∙ waiting_more before high in
    let twice = ap waiting c.push_reserved-in-Split.ensures.items ∙ waiting_more c.push_reserved.new.self.items low in
    twice ∙ ap (λ l. shape low.now ∷ l) once
    ∙ ap (λ n. shape n ∷ shape high.now ∷ waiting before) c.deref-in-Split.ensures
    ∙ ap (λ n. shape c.in-Split.low.value ∷ shape n ∷ waiting before) c.deref.ensures
    ∙ sym (ap (λ n. below (shape n) ++ waiting before) c.in-Split.is)

pub returns-in-Split-clause-fit : goal.returns-in-Split-clause-fit
returns-in-Split-clause-fit c =
    subst FitPath (sym (returns-in-Split-clause-waits c)) (fit_below (shape c.args.node.now) (waiting c.args.path.now.items) c.requires.fit)
