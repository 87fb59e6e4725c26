use Rattle.std.proofs.Common.{sym, ◌∙◌, arith}
use Rattle.std.specs.Fmt.{decimal}
use Rattle.std.proofs.lemmas.Fmt.{decimal_injective}
use Rattle.std.proofs.lemmas.List.{append_cancel_left}
use Rattle.cert_text.proofs.numbers.last_count.Goals as goal

pub returns-then-n-eq0-clause-no_such : goal.returns-then-n-eq0-clause-no_such
returns-then-n-eq0-clause-no_such c none n some within is =
    let word = append_cancel_left c.args.label.now (decimal c.in_ok-n.n) (decimal n) (sym c.in_ok-n.ensures.said ∙ is) in
    absurd (omega (arith, decimal_injective c.in_ok-n.n n (omega arith) (omega arith) word))
