use Rattle.std.proofs.Common.{◌≡◌, ◌≢◌, subst, length-take-le, ℕ, ◌+◌, ◌<◌, ◌≤◌, ◌==◌, Bool, true, false, not, ◌&&◌, nat_lt, List, [], ◌∷◌, ◌++◌, length, take, drop, get_or, arith, refl, sym, ap, ◌∙◌, length-append}
use Rattle.std.specs.List.{list_all, position_or_len}
use Rattle.std.specs.Prelude.{if◌then◌else◌}
use Rattle.std.proofs.Math.Seq.{take-append_seam}
use Rattle.std.proofs.lemmas.Bool.Decides.{nat_tests}
use Rattle.std.proofs.lemmas.List.{take-append-drop, drop_more}
use Rattle.std.proofs.lemmas.List.Sums.{prefix_len_stops}
use Rattle.coord_text.proofs.Digits.{same_parts}
use Rattle.coord_text.specs.Lines.{IsLine, is_printable, line_len, next_of}
use Rattle.coord_text.specs.declared.lines.NextLine.TheVariants.{End, TooLong, NoEnd, NotAscii, Line}

-- both tests are passed
pub both_pass : (a b : Bool) → (a && b) ≡ true → (a ≡ true) × (b ≡ true)
both_pass true b h = (refl, h)
both_pass false b h = absurd (cc)

-- no printable byte is a line feed
pub no_feed : (b : ℕ) → is_printable b ≡ true → (b == 10) ≡ false
no_feed b h = grind (arith, nat_tests)

-- a line ends at the line feed that follows it
pub line_ends : (line rest : List ℕ) → list_all is_printable line ≡ true → line_len (line ++ 10 ∷ rest) ≡ length line
line_ends [] rest h = refl
line_ends (b ∷ bs) rest h =
    let parts = both_pass (is_printable b) (list_all is_printable bs) h in
    rw (no_feed b parts.0, line_ends bs rest parts.1) (omega arith)

-- a line was found by passing each test
tests_passed : (none long unended printed : Bool) (n to : ℕ)
    → (if none then End else (if long then TooLong else (if unended then NoEnd else (if printed then Line n else NotAscii)))) ≡ Line to
    → (none ≡ false) × (long ≡ false) × (unended ≡ false) × (printed ≡ true) × (n ≡ to)
tests_passed true long unended printed n to h = absurd (cc)
tests_passed false true unended printed n to h = absurd (cc)
tests_passed false false true printed n to h = absurd (cc)
tests_passed false false false false n to h = absurd (cc)
tests_passed false false false true n to h = (refl, refl, refl, refl, cc)

-- and by passing each test a line is found
all_passed : (none long unended printed : Bool) (n to : ℕ) → none ≡ false → long ≡ false → unended ≡ false → printed ≡ true → n ≡ to
    → (if none then End else (if long then TooLong else (if unended then NoEnd else (if printed then Line n else NotAscii)))) ≡ Line to
all_passed none long unended printed n to a b c d e = rw (a, b, c, d, e) refl

-- a number that isn't above another
not_above : (m n : ℕ) → nat_lt m n ≡ false → n ≤ m
not_above m n h = grind (arith, nat_tests)

-- a byte that isn't another than a line feed is one
is_feed : (b : ℕ) → not (b == 10) ≡ false → b ≡ 10
is_feed b h = grind (arith, nat_tests)

-- a line that was found stands there, with its line feed
pub line_found : (left : List ℕ) (to : ℕ) → next_of left 0 ≡ Line to → to < length left → IsLine (take to left) × (left ≡ take to left ++ 10 ∷ drop (to + 1) left)
line_found left to h within =
    let tests = tests_passed (length left == 0) (nat_lt 2048 (line_len left)) (line_len left == length left) (list_all is_printable (take (line_len left) left)) (0 + line_len left) to h in
    let here : line_len left ≡ to = omega (arith, tests.4) in
    let ends : line_len left < length left = omega arith in
    let feed : get_or left to 0 ≡ 10 = ap (λ k. get_or left k 0) (sym here) ∙ is_feed (get_or left (line_len left) 0) (prefix_len_stops (λ b. not (b == 10)) left 0 ends) in
    let short : to ≤ 2048 = omega (arith, not_above 2048 (line_len left) tests.1) in
    let length_is : length (take to left) ≡ to = length-take-le to left (omega arith) in (
      record { short = omega (arith, length_is); printable = subst (λ k. list_all is_printable (take k left) ≡ true) here tests.3 },
      sym (take-append-drop to left) ∙ ap (λ w. take to left ++ w) (drop_more left to 0 within ∙ ap (λ b. b ∷ drop (to + 1) left) feed),
    )

-- where a line stands, it is found
pub line_there : (left line rest : List ℕ) → IsLine line → left ≡ line ++ 10 ∷ rest → next_of left 0 ≡ Line (length line)
line_there left line rest is stands =
    let long : length left ≡ length line + (length rest + 1) = ap length stands ∙ length-append line (10 ∷ rest) ∙ omega arith in
    let ends : line_len left ≡ length line = ap line_len stands ∙ line_ends line rest is.printable in
    let front : take (line_len left) left ≡ line = ap (λ k. take k left) ends ∙ ap (take (length line)) stands ∙ take-append_seam line (10 ∷ rest) in
    let some : (length left == 0) ≡ false = grind (arith, nat_tests) in
    let short : nat_lt 2048 (line_len left) ≡ false = grind (arith, nat_tests, is.short) in
    let ended : (line_len left == length left) ≡ false = grind (arith, nat_tests) in
    let printed : list_all is_printable (take (line_len left) left) ≡ true = ap (list_all is_printable) front ∙ is.printable in
    all_passed (length left == 0) (nat_lt 2048 (line_len left)) (line_len left == length left) (list_all is_printable (take (line_len left) left)) (0 + line_len left) (length line) some short ended printed (omega (arith, ends))

-- a word ends at the first byte that it doesn't have
pub word_ends : (b : ℕ) (word rest : List ℕ) → list_all (λ c. not (c == b)) word ≡ true → position_or_len (λ c. c == b) (word ++ b ∷ rest) ≡ length word
word_ends b [] rest h = let same : (b == b) ≡ true = grind (arith, nat_tests) in rw same refl
word_ends b (c ∷ cs) rest h =
    let parts = both_pass (not (c == b)) (list_all (λ c. not (c == b)) cs) h in
    rw (parts.0, word_ends b cs rest parts.1) (omega arith)

-- two texts that are cut at the same byte have the same parts
pub same_cut : (b : ℕ) (x y r s : List ℕ) → list_all (λ c. not (c == b)) x ≡ true → list_all (λ c. not (c == b)) y ≡ true
    → x ++ b ∷ r ≡ y ++ b ∷ s → (x ≡ y) × (r ≡ s)
same_cut b x y r s of_x of_y same =
    let long : length x ≡ length y = sym (word_ends b x r of_x) ∙ ap (position_or_len (λ c. c == b)) same ∙ word_ends b y s of_y in
    let parts = same_parts x y (b ∷ r) (b ∷ s) long same in
    (parts.0, ap (drop 1) parts.1)

-- two texts that begin with a line begin with the same line
pub same_first_line : (x y r s : List ℕ) → IsLine x → IsLine y → x ++ 10 ∷ r ≡ y ++ 10 ∷ s → (x ≡ y) × (r ≡ s)
same_first_line x y r s of_x of_y same =
    let long : length x ≡ length y = sym (line_ends x r of_x.printable) ∙ ap line_len same ∙ line_ends y s of_y.printable in
    let parts = same_parts x y (10 ∷ r) (10 ∷ s) long same in
    (parts.0, ap (drop 1) parts.1)
