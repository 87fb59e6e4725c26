use Rattle.std.proofs.Common.{◌≡◌, ◌≤◌, ℕ, List, ◌++◌, Option, Some, None, ap, ◌∙◌}
use Rattle.std.specs.Fmt.{decimal}
use Rattle.std.specs.Prelude.{IfSome}
use Rattle.std.proofs.lemmas.Bool.Decides.{Decides-eqb}
use Rattle.std.proofs.lemmas.Slice.Eq.{strip_prefix_is}
use Rattle.cert_text.proofs.numbers.last_number.Goals as goal

-- a number that is read behind the label is said by the text
said_behind : (text label word : List ℕ) (limit : ℕ) (read : Option ℕ) → text ≡ label ++ word → IfSome read (λ n. (n ≤ limit) × (word ≡ decimal n)) → IfSome read (λ n. text ≡ label ++ decimal n)
said_behind text label word limit None behind said = tt
said_behind text label word limit (Some n) behind said = behind ∙ ap (λ w. label ++ w) said.1

pub returns-in_err-strip_prefix-clause-no_such : goal.returns-in_err-strip_prefix-clause-no_such
returns-in_err-strip_prefix-clause-no_such c none n within is =
    strip_prefix_is Decides-eqb c.args.text.now c.args.label.now None c.in_err-strip_prefix.ensures.cases (decimal n) is

pub returns-clause-said : goal.returns-clause-said
returns-clause-said c =
    let parts = strip_prefix_is Decides-eqb c.args.text.now c.args.label.now (Some c.in_ok-strip_prefix.field-0) c.in_ok-strip_prefix.ensures.cases in
    said_behind c.args.text.now c.args.label.now c.in_ok-strip_prefix.field-0.now c.args.limit c.read_number.result parts c.read_number.ensures.spelled
