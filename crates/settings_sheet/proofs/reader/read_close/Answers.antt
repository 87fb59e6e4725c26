use Rattle.std.proofs.Common.{◌≡◌, true, rules, inl, inr, refl, sym, subst}
use Rattle.settings_sheet.specs.Stages.{IsEndStop}
use Rattle.settings_sheet.proofs.reader.read_close.Goals as goal

pub returns-in_default-clause-stops : goal.returns-in_default-clause-stops
returns-in_default-clause-stops c =
    subst (IsEndStop c.args.text.now c.args.line) (sym c.fault.ensures)
    (inl (record { number = refl; is_due = refl; no_such = c.in_default.ensures.no_such refl }))

pub returns-then-not-is_empty-clause-stops : goal.returns-then-not-is_empty-clause-stops
returns-then-not-is_empty-clause-stops c =
    subst (IsEndStop c.args.text.now c.args.line) (sym c.fault-then-not-is_empty.ensures)
    (inr (record { number = refl; is_due = refl; left = c.in-Some.left.now; parts = c.in-Some.ensures.said; some = λ empty. let is : c.is_empty.result ≡ true = search rules in absurd (cc is) }))
