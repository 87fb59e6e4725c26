-- The number that a word spells.
use Rattle.std.proofs.Common.{◌≡◌, ◌∙◌, ◌≤◌, ◌<◌, ◌^◌, ℕ, true, refl, sym, ap, List, Some, None, le-leb}
use Rattle.std.specs.Fmt.{decimal}
use Rattle.std.specs.Str.{bytes_eq}
use Rattle.std.specs.Str.Parse.{digits_value}
use Rattle.std.proofs.lemmas.Bool.{lt-leb}
use Rattle.std.proofs.lemmas.Fmt.{decimal_is_IsNumeral}
use Rattle.std.proofs.lemmas.Slice.Eq.{bytes_eq-Decides}
use Rattle.coord_words.specs.OptionNumbers.{number_within}

module _ (least most n : ℕ) (word : List ℕ) (spelled : word ≡ decimal n) (small : n < 2 ^ 64) where
  value : digits_value 10 word ≡ n
  value = ap (digits_value 10) spelled ∙ (decimal_is_IsNumeral n small).1

  again : bytes_eq (decimal n) word ≡ true
  again = (bytes_eq-Decides (decimal n) word).1 (sym spelled)

  pub number_is : least ≤ n → n ≤ most → number_within least most word ≡ Some n
  number_is above within = rw (value, again, le-leb least n above, le-leb n most within) refl

  pub number_below : n < least → number_within least most word ≡ None
  number_below below = rw (value, again, lt-leb least n below) refl
