use Rattle.std.proofs.Common.{◌≡◌, ◌∷◌, ◌++◌, refl, ap, ◌∙◌, arith}
use Rattle.std.specs.Fmt.{decimal}
use Rattle.cert_text.proofs.Cuts.{same_number}
use Rattle.cert_text.proofs.PairWords.{pair_cut}
use Rattle.cert_text.proofs.nodes.cut_pair.Goals as goal

pub returns-in_err-row-clause-no_such : goal.returns-in_err-row-clause-no_such
returns-in_err-row-clause-no_such c none a b rest of_a of_b stops is =
    c.in_err-row.ensures.no_such refl a (58 ∷ (decimal b ++ rest)) (omega (arith, c.from.ensures, of_a)) refl (is ∙ ap (λ r. 32 ∷ r) (pair_cut a b rest))

pub returns-in_err-weight-clause-no_such : goal.returns-in_err-weight-clause-no_such
returns-in_err-weight-clause-no_such c none a b rest of_a of_b stops is =
    let behind : decimal c.in_ok-row.row ++ c.in_ok-row.rest.now ≡ decimal a ++ 58 ∷ (decimal b ++ rest) = cc (c.in_ok-row.ensures.said, is ∙ ap (λ r. 32 ∷ r) (pair_cut a b rest)) in
    let first = same_number c.in_ok-row.row a c.in_ok-row.rest.now (58 ∷ (decimal b ++ rest)) (omega (arith, c.in_ok-row.ensures.within)) (omega (arith, of_a)) c.in_ok-row.ensures.stops refl behind in
    c.in_err-weight.ensures.no_such refl b rest (omega (arith, c.from-2.ensures, of_b)) stops first.1
