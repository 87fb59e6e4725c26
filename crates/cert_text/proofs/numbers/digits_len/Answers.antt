use Rattle.std.proofs.Common.{◌≡◌, ◌≤◌, ℕ, cond, Some, None, length, ltb, not, arith, rules, tests, ◌∙◌, ap}
use Rattle.std.specs.Char.{is_ascii_digit}
use Rattle.std.specs.Option.{unwrap_or}
use Rattle.std.proofs.lemmas.Bool.Decides.{nat_tests}
use Rattle.std.proofs.lemmas.Iterator.{YieldsList-from_slice}
use Rattle.std.proofs.lemmas.Iterator.Search.{position_from_yields_List}
use Rattle.std.proofs.lemmas.List.Sums.{prefix_len-le-length}
use Rattle.cert_text.proofs.Cuts.{digits_of}
use Rattle.cert_text.proofs.numbers.digits_len.Goals as goal

-- the place that was found, or the end
found_or_end : (k n : ℕ) → k ≤ n → unwrap_or (cond (ltb k n) (Some k) None) n ≡ k
found_or_end k n within = grind (arith, nat_tests)

pub returns-clause-exact : goal.returns-clause-exact
returns-clause-exact c =
    let bytes = c.args.text.now in
    let found : c.position.result ≡ cond (ltb (digits_of bytes) (length bytes)) (Some (digits_of bytes)) None =
    position_from_yields_List (λ b. not (is_ascii_digit b)) _ _ c.position.result c.position.ensures.ran (YieldsList-from_slice bytes c.iter.ensures.rest) (λ x b q k. search (rules, tests)) in
    c.unwrap_or.ensures ∙ ap (λ r. unwrap_or r (length bytes)) found ∙ found_or_end (digits_of bytes) (length bytes) (prefix_len-le-length (λ b. not (not (is_ascii_digit b))) bytes)
