use Rattle.std.proofs.Common.{◌≡◌, ◌≤◌, ◌==◌, ℕ, cond, Some, None, length, ltb, not, arith, rules, tests, ◌∙◌, ap}
use Rattle.std.specs.Option.{unwrap_or}
use Rattle.std.proofs.lemmas.Bool.Decides.{nat_tests}
use Rattle.std.proofs.lemmas.Iterator.{YieldsList-from_slice}
use Rattle.std.proofs.lemmas.Iterator.Search.{position_from_yields_List}
use Rattle.std.proofs.lemmas.List.Sums.{prefix_len-le-length}
use Rattle.coord_text.specs.Lines.{line_len}
use Rattle.coord_text.proofs.lines.line_len.Goals as goal

-- the place that was found, or the end
found_or_end : (k n : ℕ) → k ≤ n → unwrap_or (cond (ltb k n) (Some k) None) n ≡ k
found_or_end k n within = grind (arith, nat_tests)

pub returns-clause-exact : goal.returns-clause-exact
returns-clause-exact c =
    let bytes = c.args.bytes.now in
    let found : c.position.result ≡ cond (ltb (line_len bytes) (length bytes)) (Some (line_len bytes)) None =
    position_from_yields_List (λ b. b == 10) _ _ c.position.result c.position.ensures.ran (YieldsList-from_slice bytes c.iter.ensures.rest) (λ x b q k. search (rules, tests)) in
    c.unwrap_or.ensures ∙ ap (λ r. unwrap_or r (length bytes)) found ∙ found_or_end (line_len bytes) (length bytes) (prefix_len-le-length (λ b. not (b == 10)) bytes)
