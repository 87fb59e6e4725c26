use Rattle.std.proofs.Common.{◌≡◌, ℕ, zero, suc, ◌+◌, ◌*◌, ◌/◌, ◌%◌, ◌^◌, ◌<◌, ◌≤◌, Bool, true, List, [], ◌∷◌, ◌++◌, length, take, drop, get_or, add-one, add-zero, arith, refl, sym, ap, ◌∙◌, length-append}
use Rattle.std.specs.Char.{is_ascii_digit}
use Rattle.std.specs.Fmt.{decimal}
use Rattle.std.specs.List.{list_all}
use Rattle.std.proofs.Math.Nat.{pow-succ', div-div-eq-div-mul, div-one, one-le-pow, pow-le-pow_right, mul-le-mul, lt-mul-div-succ, div-le_self}
use Rattle.std.proofs.Math.Seq.{take-append_seam, drop-append-add}
use Rattle.std.proofs.lemmas.Bool.Decides.{nat_tests}
use Rattle.std.proofs.lemmas.Fmt.{decimal_by_steps, decimal_injective}
use Rattle.std.proofs.lemmas.List.{append_cancel_left, get_or-append-add}
use Rattle.std.proofs.lemmas.List.Folds.{list_all-append}
use Rattle.coord_text.specs.Numbers.{low_digits, fixed}

-- two joined texts whose fronts are equally long have the same parts
pub same_parts : {A : Type 0} (x y r s : List A) → length x ≡ length y → x ++ r ≡ y ++ s → (x ≡ y) × (r ≡ s)
same_parts x y r s long same =
    let front : x ≡ y = sym (take-append_seam x r) ∙ ap (take (length x)) same ∙ ap (λ k. take k (y ++ s)) long ∙ take-append_seam y s in (
      front,
      append_cancel_left y r s (ap (λ w. w ++ r) (sym front) ∙ same),
    )

-- as many last digits as were asked for
pub length-low_digits : (places n : ℕ) → length (low_digits places n) ≡ places
length-low_digits zero n = refl
length-low_digits (suc places) n =
    omega (arith, length-append (low_digits places (n / 10)) ((48 + n % 10) ∷ []), length-low_digits places (n / 10))

-- a power more divides by ten first
pub div-tenth : (places n : ℕ) → n / 10 ^ suc places ≡ n / 10 / 10 ^ places
div-tenth places n = ap (λ k. n / k) (pow-succ' 10 places) ∙ sym (div-div-eq-div-mul n 10 (10 ^ places))

-- the digits and what stands before them make the number
pub same_number : (places m n : ℕ) → m / 10 ^ places ≡ n / 10 ^ places → low_digits places m ≡ low_digits places n → m ≡ n
same_number zero m n front digits = sym (div-one m) ∙ front ∙ div-one n
same_number (suc places) m n front digits =
    let long : length (low_digits places (m / 10)) ≡ length (low_digits places (n / 10)) =
    length-low_digits places (m / 10) ∙ sym (length-low_digits places (n / 10)) in
    let parts = same_parts (low_digits places (m / 10)) (low_digits places (n / 10)) ((48 + m % 10) ∷ []) ((48 + n % 10) ∷ []) long digits in
    let tenth = same_number places (m / 10) (n / 10) (sym (div-tenth places m) ∙ front ∙ div-tenth places n) parts.0 in
    let last : 48 + m % 10 ≡ 48 + n % 10 = cc parts.1 in
    omega (arith, tenth, last)

-- a test that each digit passes is passed by the last digits
pub low_digits-pass : (p : ℕ → Bool) → ((b : ℕ) → b < 10 → p (48 + b) ≡ true) → (places n : ℕ) → list_all p (low_digits places n) ≡ true
low_digits-pass p each zero n = refl
low_digits-pass p each (suc places) n =
    let last : n % 10 < 10 = omega arith in
    rw (list_all-append p (low_digits places (n / 10)) ((48 + n % 10) ∷ []), low_digits-pass p each places (n / 10), each (n % 10) last) refl

-- one more digit behind a number
pub one_more_digit : (i n d : ℕ) → d < 10 → ((n * 10 + d) / 10 ^ (i + 1) ≡ n / 10 ^ i) × (low_digits (i + 1) (n * 10 + d) ≡ low_digits i n ++ (48 + d) ∷ [])
one_more_digit i n d digit =
    let tenth : (n * 10 + d) / 10 ≡ n = omega arith in
    let last : (n * 10 + d) % 10 ≡ d = omega arith in (
      rw (add-one, div-tenth i (n * 10 + d), tenth) refl,
      rw (add-one, tenth, last) refl,
    )

-- six digits more keep the number below 2^120
pub digits_fit : (i front n : ℕ) → i ≤ 6 → front < 2 ^ 64 → n / 10 ^ i ≡ front → n < 2 ^ 120
digits_fit i front n few small is =
    let least : 0 < 10 ^ i = one-le-pow i 10 (omega arith) in
    let most : 10 ^ i ≤ 10 ^ 6 = pow-le-pow_right (omega arith) few in
    let under : n < 10 ^ i * (n / 10 ^ i + 1) = lt-mul-div-succ n least in
    let next : n / 10 ^ i + 1 ≤ 2 ^ 64 = omega arith in
    let wide : 10 ^ i * (n / 10 ^ i + 1) ≤ 10 ^ 6 * 2 ^ 64 = mul-le-mul most next in
    omega arith

-- a byte that passes for a digit is one
pub digit_value : (b : ℕ) → is_ascii_digit b ≡ true → (48 ≤ b) × (b < 58)
digit_value b is = (grind (arith, nat_tests), grind (arith, nat_tests))

-- a fixed-point number has its point and its places at the end
pub length-fixed : (places n : ℕ) → length (fixed places n) ≡ length (decimal (n / 10 ^ places)) + (places + 1)
length-fixed places n =
    omega (arith, length-append (decimal (n / 10 ^ places)) (46 ∷ low_digits places n), length-low_digits places n)

-- what stands before the point, at it and behind it
pub fixed_parts : (places n point : ℕ) (word : List ℕ) → point + (places + 1) ≡ length word → word ≡ fixed places n
    → (take point word ≡ decimal (n / 10 ^ places)) × (get_or word point 0 ≡ 46) × (drop (point + 1) word ≡ low_digits places n)
fixed_parts places n point word long is =
    let whole = decimal (n / 10 ^ places) in
    let there : point ≡ length whole = omega (arith, ap length is, length-fixed places n) in (
      ap (take point) is ∙ ap (λ k. take k (fixed places n)) there ∙ take-append_seam whole (46 ∷ low_digits places n),
      ap (λ w. get_or w point 0) is ∙ ap (λ k. get_or (fixed places n) k 0) (there ∙ sym (add-zero (length whole))) ∙ get_or-append-add whole (46 ∷ low_digits places n) 0 0,
      ap (drop (point + 1)) is ∙ ap (λ k. drop (k + 1) (fixed places n)) there ∙ drop-append-add whole (46 ∷ low_digits places n) 1,
    )

-- a test that each digit passes is passed by a number in digits
pub decimal-pass : (p : ℕ → Bool) → ((b : ℕ) → b < 10 → p (48 + b) ≡ true) → (n : ℕ) → n < 2 ^ 64 → list_all p (decimal n) ≡ true
decimal-pass p each n small =
    decimal_by_steps (λ n digits. list_all p digits ≡ true)
    (λ n one. rw (each n one) refl)
    (λ n digits more front. let last : n % 10 < 10 = omega arith in rw (list_all-append p digits ((48 + n % 10) ∷ []), front, each (n % 10) last) refl)
    n small

-- and by a fixed-point number, where the point passes it too
pub fixed-pass : (p : ℕ → Bool) → ((b : ℕ) → b < 10 → p (48 + b) ≡ true) → p 46 ≡ true → (places n : ℕ) → n < 2 ^ 64 → list_all p (fixed places n) ≡ true
fixed-pass p each point places n small =
    let front : n / 10 ^ places < 2 ^ 64 = omega (arith, div-le_self n (10 ^ places)) in
    rw (list_all-append p (decimal (n / 10 ^ places)) (46 ∷ low_digits places n), decimal-pass p each (n / 10 ^ places) front, point, low_digits-pass p each places n) refl

-- a fixed-point number spells one number
pub same_fixed : (places m n : ℕ) → m < 2 ^ 64 → n < 2 ^ 64 → fixed places m ≡ fixed places n → m ≡ n
same_fixed places m n of_m of_n same =
    let point = length (decimal (m / 10 ^ places)) in
    let here = fixed_parts places m point (fixed places m) (sym (length-fixed places m)) refl in
    let there = fixed_parts places n point (fixed places m) (sym (length-fixed places m)) same in
    let front = decimal_injective (m / 10 ^ places) (n / 10 ^ places) (omega (arith, div-le_self m (10 ^ places))) (omega (arith, div-le_self n (10 ^ places))) (sym here.0 ∙ there.0) in
    same_number places m n front (sym here.2 ∙ there.2)
