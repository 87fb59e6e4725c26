-- The lines of an ending and of an amount.
use Rattle.std.proofs.Common.{◌≡◌, ℕ, ◌+◌, ◌<◌, ◌≤◌, true, Option, Some, None, List, ◌++◌, length, refl, arith, length-append}
use Rattle.std.specs.Fmt.{decimal}
use Rattle.std.specs.List.{list_all}
use Rattle.std.specs.Prelude.{codes}
use Rattle.std.proofs.lemmas.Bool.Decides.{nat_tests}
use Rattle.std.proofs.lemmas.Fmt.{length-decimal-le}
use Rattle.std.proofs.lemmas.List.Folds.{list_all-append}
use Rattle.coord_model.specs.declared.choice.Ending.{Ending}
use Rattle.coord_model.specs.declared.choice.Ending.TheVariants.{Closed, NoSettings, BudgetSpent, Hairline}
use Rattle.coord_text.specs.Claims.{IsShort, amount, ending_word}
use Rattle.coord_text.specs.Lines.{IsLine, is_printable}
use Rattle.coord_text.proofs.Digits.{decimal-pass}

pub ending_is_line : (ending : Ending) → IsLine (codes "ending " ++ ending_word ending)
ending_is_line Closed = record { short = omega arith; printable = refl }
ending_is_line NoSettings = record { short = omega arith; printable = refl }
ending_is_line BudgetSpent = record { short = omega arith; printable = refl }
ending_is_line Hairline = record { short = omega arith; printable = refl }

-- every digit is printable
pub digit_prints : (b : ℕ) → b < 10 → is_printable (48 + b) ≡ true
digit_prints b small = grind (arith, nat_tests)

-- an amount after a label is a line
pub amount_is_line : (label : List ℕ) → length label ≤ 100 → list_all is_printable label ≡ true → (n : Option ℕ) → IsShort n → IsLine (label ++ amount n)
amount_is_line label few prints None short = record {
  short = omega (arith, length-append label (codes "none"));
  printable = rw (list_all-append is_printable label (codes "none"), prints) refl;
}
amount_is_line label few prints (Some n) short = record {
  short = omega (arith, length-append label (decimal n), length-decimal-le 16 n (omega arith) short (omega arith));
  printable = rw (list_all-append is_printable label (decimal n), prints, decimal-pass is_printable digit_prints n (omega arith)) refl;
}
