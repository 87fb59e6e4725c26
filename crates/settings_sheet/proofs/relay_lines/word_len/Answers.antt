use Rattle.std.proofs.Common.{◌≡◌, ◌≤◌, ◌==◌, ℕ, cond, Some, None, length, ltb, not, arith, rules, tests, ◌∙◌, ap}
use Rattle.std.specs.List.{position_or_len}
use Rattle.std.specs.Option.{unwrap_or}
use Rattle.std.proofs.lemmas.Bool.Decides.{nat_tests}
use Rattle.std.proofs.lemmas.Iterator.{YieldsList-from_slice}
use Rattle.std.proofs.lemmas.Iterator.Search.{position_from_yields_List}
use Rattle.std.proofs.lemmas.List.Sums.{prefix_len-le-length}
use Rattle.settings_sheet.proofs.relay_lines.word_len.Goals as goal

-- the place that was found, or the end
found_or_end : (k n : ℕ) → k ≤ n → unwrap_or (cond (ltb k n) (Some k) None) n ≡ k
found_or_end k n within = grind (arith, nat_tests)

pub returns-clause-exact : goal.returns-clause-exact
returns-clause-exact c =
    let bytes = c.args.words.now in
    let found : c.position.result ≡ cond (ltb (position_or_len (λ b. b == 32) bytes) (length bytes)) (Some (position_or_len (λ b. b == 32) bytes)) None =
    position_from_yields_List (λ b. b == 32) _ _ c.position.result c.position.ensures.ran (YieldsList-from_slice bytes c.iter.ensures.rest) (λ x b q k. search (rules, tests)) in
    c.unwrap_or.ensures ∙ ap (λ r. unwrap_or r (length bytes)) found ∙ found_or_end (position_or_len (λ b. b == 32) bytes) (length bytes) (prefix_len-le-length (λ b. not (b == 32)) bytes)
