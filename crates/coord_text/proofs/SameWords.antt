use Rattle.std.proofs.Common.{◌≡◌, ◌≢◌, ℕ, ◌^◌, ◌<◌, ◌==◌, true, not, Option, Some, None, refl, sym, ap, arith}
use Rattle.std.specs.Fmt.{decimal}
use Rattle.std.specs.List.{list_all}
use Rattle.std.specs.Prelude.{codes}
use Rattle.std.proofs.lemmas.Bool.Decides.{nat_tests}
use Rattle.std.proofs.lemmas.Fmt.{decimal_injective}
use Rattle.coord_model.specs.declared.choice.Ending.{Ending}
use Rattle.coord_model.specs.declared.choice.Ending.TheVariants.{Closed, NoSettings, BudgetSpent, Hairline}
use Rattle.coord_text.specs.Claims.{IsShort, amount, ending_word}
use Rattle.coord_text.proofs.Digits.{decimal-pass}

-- an ending has a word of its own
pub same_ending : (e f : Ending) → ending_word e ≡ ending_word f → e ≡ f
same_ending Closed Closed h = refl
same_ending Closed NoSettings h = absurd (cc)
same_ending Closed BudgetSpent h = absurd (cc)
same_ending Closed Hairline h = absurd (cc)
same_ending NoSettings Closed h = absurd (cc)
same_ending NoSettings NoSettings h = refl
same_ending NoSettings BudgetSpent h = absurd (cc)
same_ending NoSettings Hairline h = absurd (cc)
same_ending BudgetSpent Closed h = absurd (cc)
same_ending BudgetSpent NoSettings h = absurd (cc)
same_ending BudgetSpent BudgetSpent h = refl
same_ending BudgetSpent Hairline h = absurd (cc)
same_ending Hairline Closed h = absurd (cc)
same_ending Hairline NoSettings h = absurd (cc)
same_ending Hairline BudgetSpent h = absurd (cc)
same_ending Hairline Hairline h = refl

-- `none` is no number
none_is_no_number : (n : ℕ) → n < 10 ^ 16 → codes "none" ≢ decimal n
none_is_no_number n short h =
    let digits : list_all (λ b. not (b == 110)) (decimal n) ≡ true = decimal-pass (λ b. not (b == 110)) (λ b small. grind (arith, nat_tests)) n (omega arith) in
    cc (ap (list_all (λ b. not (b == 110))) h, digits)

-- an amount has a word of its own
pub same_amount : (m n : Option ℕ) → IsShort m → IsShort n → amount m ≡ amount n → m ≡ n
same_amount None None of_m of_n h = refl
same_amount None (Some n) of_m of_n h = absurd (none_is_no_number n of_n h)
same_amount (Some m) None of_m of_n h = absurd (none_is_no_number m of_m (sym h))
same_amount (Some m) (Some n) of_m of_n h = ap Some (decimal_injective m n (omega arith) (omega arith) h)
