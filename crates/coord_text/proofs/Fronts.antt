use Rattle.std.proofs.Common.{◌≡◌, ◌≢◌, ℕ, zero, suc, ◌+◌, ◌-◌, ◌/◌, ◌%◌, ◌≤◌, List, [], ◌∷◌, ◌++◌, length, take, drop, arith, refl, sym, ap, ◌∙◌}
use Rattle.std.proofs.lemmas.List.{take-append-drop, take-append-le}
use Rattle.std.proofs.Math.Seq.{take-append_seam}
use Rattle.coord_text.specs.Numbers.{low_digits}

-- the last digits: those of the tenth part, and one more
pub low_digits-more : (places n : ℕ) → places ≢ 0 → low_digits places n ≡ low_digits (places - 1) (n / 10) ++ (48 + n % 10) ∷ []
low_digits-more zero n some = absurd (some refl)
low_digits-more (suc places) n some =
    let e : places ≡ suc places - 1 = omega arith in
    ap (λ k. low_digits k (n / 10) ++ (48 + n % 10) ∷ []) e

-- a front of a front is a front
pub front_of_front : (x y z : List ℕ) (m : ℕ) → take m y ≡ x → take (length y) z ≡ y → m ≤ length y → take m z ≡ x
front_of_front x y z m first second within =
    ap (take m) (sym (take-append-drop (length y) z)) ∙ ap (λ w. take m (w ++ drop (length y) z)) second
    ∙ take-append-le m y (drop (length y) z) within ∙ first

-- a text stands at the front of itself with more behind it
pub front_of_more : (x more : List ℕ) (m : ℕ) → m ≡ length x → take m (x ++ more) ≡ x
front_of_more x more m is = ap (λ k. take k (x ++ more)) is ∙ take-append_seam x more
