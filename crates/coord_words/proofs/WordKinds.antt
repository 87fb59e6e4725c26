-- What a word after a command is, to the rules and to clap: `--`, a name, or a word that looks like an option.
use Rattle.std.proofs.Common.{◌≡◌, ◌&&◌, ℕ, Bool, true, false, not, refl, sym, ap, subst, arith, List, [], ◌∷◌, length, take, codes, Some, None, inl, inr, lt-ltb}
use Rattle.std.specs.Prelude.{◌==◌, nat_lt, slice_get, encode_utf8_all}
use Rattle.std.specs.Char.{encode_utf8}
use Rattle.std.specs.Str.{IsUtf8, bytes_eq, chars}
use Rattle.std.proofs.lemmas.Bool.Decides.{eqb_tells}
use Rattle.std.proofs.lemmas.Str.{encodes-chars}
use Rattle.clap.specs.Lexer.{long_of, short_of}
use Rattle.coord_words.specs.SaidUses.{is_name, opens_names, option_in, word_in}

-- what a word may be
pub data Kind (word : List ℕ) : Type 0 where
  marker : opens_names word ≡ true → is_name word ≡ false → Kind word
  a_name : opens_names word ≡ false → is_name word ≡ true → long_of word ≡ None → short_of word ≡ None → Kind word
  long_flag : opens_names word ≡ false → is_name word ≡ false → bytes_eq (take 2 word) (codes "--") ≡ true → long_of word ≡ Some (option_in word, word_in word) → Kind word
  short_flag : opens_names word ≡ false → is_name word ≡ false → bytes_eq (take 2 word) (codes "--") ≡ false → long_of word ≡ None → (y : ℕ) (rest : List ℕ) → short_of word ≡ Some (y ∷ rest) → (c : ℕ)
      → slice_get (chars (y ∷ rest)) 0 ≡ Some c → Kind word

and_false : (b : Bool) → (b && false) ≡ false
and_false true = refl
and_false false = refl

-- a word of two or more bytes that begins with `-` is no name
no_name : (y : ℕ) (rest : List ℕ) → is_name (45 ∷ y ∷ rest) ≡ false
no_name y rest =
    let longer : nat_lt 1 (length (45 ∷ y ∷ rest)) ≡ true = lt-ltb 1 (length (45 ∷ y ∷ rest)) (omega arith) in
    ap (λ b. not (b && true)) longer

-- the characters after the hyphen of a text, of which there is one at least
first_flag : (y : ℕ) (rest : List ℕ) → IsUtf8 (45 ∷ y ∷ rest) → (c : ℕ) × (slice_get (chars (y ∷ rest)) 0 ≡ Some c)
unfolding chars encode_utf8
first_flag y rest utf8 = go (chars (y ∷ rest)) (encodes-chars (45 ∷ y ∷ rest) utf8)
  where
    go : (cs : List ℕ) → encode_utf8_all (45 ∷ cs) ≡ 45 ∷ y ∷ rest → (c : ℕ) × (slice_get cs 0 ≡ Some c)
    go [] e = absurd (omega (arith, ap length e))
    go (c ∷ cs) e = (c, refl)

-- a word that begins with another byte is a name
other : (x : ℕ) (rest : List ℕ) → (x == 45) ≡ false → Kind (x ∷ rest)
other x rest e =
    let shown : (nat_lt 1 (length (x ∷ rest)) && (x == 45)) ≡ false = rw e (and_false (nat_lt 1 (length (x ∷ rest)))) in
    a_name (rw e refl) (ap not shown) (rw e refl) (rw e refl)

hyphens : (rest : List ℕ) → Kind (45 ∷ 45 ∷ rest)
hyphens [] = marker refl (no_name 45 [])
hyphens (z ∷ rest) = long_flag refl (no_name 45 (z ∷ rest)) refl refl

hyphen : (y : ℕ) (rest : List ℕ) → IsUtf8 (45 ∷ y ∷ rest) → Kind (45 ∷ y ∷ rest)
hyphen y rest utf8 = elim (eqb_tells y 45) [
  | inl h ↦ subst (λ v. Kind (45 ∷ v ∷ rest)) (sym h.1) (hyphens rest)
  | inr h ↦ let first = first_flag y rest utf8 in short_flag (rw h.0 refl) (no_name y rest) (rw h.0 refl) (rw h.0 refl) y rest (rw h.0 refl) first.0 first.1
]

pub kind_of_word : (word : List ℕ) → IsUtf8 word → Kind word
kind_of_word [] utf8 = a_name refl refl refl refl
kind_of_word (x ∷ rest) utf8 = elim (eqb_tells x 45) [
  | inl h ↦ subst (λ v. IsUtf8 (v ∷ rest) → Kind (v ∷ rest)) (sym h.1) (hyphened rest) utf8
  | inr h ↦ other x rest h.0
]
  where
    hyphened : (bytes : List ℕ) → IsUtf8 (45 ∷ bytes) → Kind (45 ∷ bytes)
    hyphened [] text = a_name refl refl refl refl
    hyphened (y ∷ bytes) text = hyphen y bytes text
