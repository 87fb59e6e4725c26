use Rattle.std.proofs.Common.{ℕ, ◌+◌, ◌/◌, ◌%◌, List, [], ◌∷◌, sym, ap, ◌∙◌}
use Rattle.drill_ring.proofs.Digits.{one_digit, two_digits, named}
use Rattle.drill_ring.proofs.names.name.Goals as goal

pub returns-then-number-lt10 : goal.returns-then-number-lt10
returns-then-number-lt10 c =
    named (c.args.letter ∷ (48 + c.args.number % 10) ∷ []) _ (sym c.new.ensures ∙ c.unwrap.ensures)
    ∙ ap (λ (ds : List ℕ). c.args.letter ∷ ds) (sym (one_digit c.args.number c.if-number-lt10.true))

pub returns-else-number-lt10 : goal.returns-else-number-lt10
returns-else-number-lt10 c =
    named (c.args.letter ∷ (48 + c.args.number / 10) ∷ (48 + c.args.number % 10) ∷ []) _ (sym c.new-else-number-lt10.ensures ∙ c.unwrap-else-number-lt10.ensures)
    ∙ ap (λ (ds : List ℕ). c.args.letter ∷ ds) (sym (two_digits c.args.number c.if-number-lt10.false c.requires.number))
