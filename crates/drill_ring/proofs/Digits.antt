-- The decimal text of a number below 100, and what a name is made of.
use Rattle.std.proofs.Common.{◌≡◌, ℕ, ◌+◌, ◌/◌, ◌%◌, ◌<◌, ◌≤◌, Bool, true, false, cond, Some, None, List, [], ◌∷◌, ◌++◌, arith, ap, ◌∙◌}
use Rattle.std.proofs.lemmas.Fmt.{decimal_digit, decimal_step}
use Rattle.std.specs.Fmt.{decimal}
use Rattle.coord_model.specs.Name.{is_name}

pub one_digit : (n : ℕ) → n < 10 → decimal n ≡ (48 + n % 10) ∷ []
one_digit n below =
    let same : n ≡ n % 10 = omega arith in
    decimal_digit n below ∙ ap (λ (d : ℕ). (48 + d) ∷ []) same

pub two_digits : (n : ℕ) → 10 ≤ n → n < 100 → decimal n ≡ (48 + n / 10) ∷ (48 + n % 10) ∷ []
two_digits n above below =
    decimal_step n above (omega arith)
    ∙ ap (λ (ds : List ℕ). ds ++ (48 + n % 10) ∷ []) (decimal_digit (n / 10) (omega arith))

kept : (b : Bool) (bytes name : List ℕ) → cond b (Some bytes) None ≡ Some name → name ≡ bytes
kept true bytes name is = cc
kept false bytes name is = absurd (cc)

-- a name that is made of bytes has these bytes
pub named : (bytes name : List ℕ) → cond (is_name bytes) (Some bytes) None ≡ Some name → name ≡ bytes
named bytes name is = kept (is_name bytes) bytes name is
