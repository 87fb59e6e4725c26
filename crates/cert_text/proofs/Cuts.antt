use Rattle.std.proofs.Common.{◌≡◌, ℕ, suc, ◌^◌, ◌<◌, Bool, true, false, not, List, [], ◌∷◌, ◌++◌, length, drop, refl, sym, ap, ◌∙◌, arith, subst}
use Rattle.std.specs.Char.{is_ascii_digit}
use Rattle.std.specs.Fmt.{decimal}
use Rattle.std.specs.List.{list_all, position_or_len}
use Rattle.std.proofs.lemmas.Bool.Decides.{nat_tests}
use Rattle.std.proofs.lemmas.Fmt.{decimal_injective}
use Rattle.coord_text.proofs.Breaks.{both_pass}
use Rattle.coord_text.proofs.Digits.{decimal-pass, same_parts}
use Rattle.cert_text.specs.Numbers.{StopsDigits}

-- how many digits a text begins with
abbrev pub digits_of : List ℕ → ℕ
digits_of text = position_or_len (λ b. not (is_ascii_digit b)) text

-- digits end where none follows
pub digits_end : (x r : List ℕ) → list_all is_ascii_digit x ≡ true → StopsDigits r → digits_of (x ++ r) ≡ length x
digits_end [] [] h stops = refl
digits_end [] (b ∷ r) h stops = rw stops refl
digits_end (b ∷ x) r h stops =
    let parts = both_pass (is_ascii_digit b) (list_all is_ascii_digit x) h in
    rw (parts.0, digits_end x r parts.1 stops) (omega arith)

-- a number has digits alone
pub all_digits : (n : ℕ) → n < 2 ^ 64 → list_all is_ascii_digit (decimal n) ≡ true
all_digits n small = decimal-pass is_ascii_digit (λ b digit. grind (arith, nat_tests)) n small

pub number_ends : (n : ℕ) (r : List ℕ) → n < 2 ^ 64 → StopsDigits r → digits_of (decimal n ++ r) ≡ length (decimal n)
number_ends n r small stops = digits_end (decimal n) r (all_digits n small) stops

-- behind its digits a text has no digit
pub stops_behind : (text : List ℕ) → StopsDigits (drop (digits_of text) text)
stops_behind [] = tt
stops_behind (b ∷ text) = stops_at b text (is_ascii_digit b) refl (stops_behind text)
  where
    stops_at : (b : ℕ) (text : List ℕ) (t : Bool) → is_ascii_digit b ≡ t → StopsDigits (drop (digits_of text) text) → StopsDigits (drop (digits_of (b ∷ text)) (b ∷ text))
    stops_at b text true is rest =
        let more : digits_of (b ∷ text) ≡ suc (digits_of text) = rw is (omega arith) in
        subst (λ k. StopsDigits (drop k (b ∷ text))) (sym more) rest
    stops_at b text false is rest =
        let none : digits_of (b ∷ text) ≡ 0 = rw is refl in
        subst (λ k. StopsDigits (drop k (b ∷ text))) (sym none) is

-- texts that begin with a number begin with one number
pub same_number : (m n : ℕ) (r s : List ℕ) → m < 2 ^ 64 → n < 2 ^ 64 → StopsDigits r → StopsDigits s → decimal m ++ r ≡ decimal n ++ s → (m ≡ n) × (r ≡ s)
same_number m n r s of_m of_n stops_r stops_s same =
    let long : length (decimal m) ≡ length (decimal n) = sym (number_ends m r of_m stops_r) ∙ ap digits_of same ∙ number_ends n s of_n stops_s in
    let parts = same_parts (decimal m) (decimal n) r s long same in
    (decimal_injective m n of_m of_n parts.0, parts.1)
