use Rattle.std.proofs.Common.{◌≡◌, ℕ, suc, ◌+◌, ◌<◌, Bool, true, false, Option, Some, None, Ok, Err, List, [], ◌∷◌, ◌++◌, length, refl, sym, ap, ◌∙◌, arith, get_or, take, nat_lt, rules, tests, MatchBool}
use Rattle.std.specs.Prelude.{find, position}
use Rattle.std.specs.List.{position_or_len, range_with_len}
use Rattle.std.proofs.lemmas.List.{get_or-take}
use Rattle.std.proofs.lemmas.List.Sums.{fails_before_first, position_or_len_is}
use Rattle.coord_model.specs.StudyData.{StudyData}
use Rattle.coord_model.specs.declared.study.Current.{Current}
use Rattle.fault_table.specs.Entry.{Fields, next_entry}
use Rattle.fault_table.specs.Table.{GoesOn, entries_from}
use Rattle.fault_table.specs.declared.fault.TableFault.{TableFault}

-- the entries go on after the next one
pub entries_from-next : (study : StudyData) (earlier : List Current) (fields : Fields) (rest records : List Fields) (entry : Current)
    → records ≡ fields ∷ rest → next_entry study earlier fields ≡ Ok entry → entries_from study earlier records ≡ entries_from study (earlier ++ entry ∷ []) rest
unfolding entries_from
entries_from-next study earlier fields rest records entry is next = rw (is, next) refl

-- or end with its fault
pub entries_from-fault : (study : StudyData) (earlier : List Current) (fields : Fields) (rest records : List Fields) (fault : TableFault)
    → records ≡ fields ∷ rest → next_entry study earlier fields ≡ Err fault → entries_from study earlier records ≡ Err fault
unfolding entries_from
entries_from-fault study earlier fields rest records fault is next = rw (is, next) refl

-- with no record left they are the earlier ones
pub entries_from-end : (study : StudyData) (earlier : List Current) (records : List Fields) → records ≡ [] → entries_from study earlier records ≡ Ok earlier
unfolding entries_from
entries_from-end study earlier records is = rw is refl

-- counting on from a number that fails a test
pub find-counting : (p : ℕ → Bool) (a n m : ℕ) → n ≡ suc m → p a ≡ false → find p (range_with_len a n) ≡ find p (range_with_len (a + 1) m)
find-counting p a n m is fails = rw (is, fails) refl

-- the first element that passes, after a front in which none does
pub position-first : {X : Type 0} (p : X → Bool) (xs : List X) (i : ℕ) (x : X) → i < length xs → x ≡ get_or xs i x → p x ≡ true
    → position_or_len p (take i xs) ≡ i → position p xs ≡ Some i
position-first p xs i x within here passes none =
    let fails : (k : ℕ) → k < i → p (get_or xs k x) ≡ false = λ k below. ap p (sym (get_or-take i xs k x below)) ∙ fails_before_first p (take i xs) k x (rw none below) in
    let is : position_or_len p xs ≡ i = position_or_len_is p xs i x (omega arith) fails (λ _. ap p (sym here) ∙ passes) in
    let inside : nat_lt i (length xs) ≡ true = search (rules, tests) in
    rw (is, inside) refl

-- what holds where a test came out true, and where it came out false
pub on_true : (b : Bool) (P Q : Type 0) → b ≡ true → MatchBool b P Q → P
on_true true P Q is h = h
on_true false P Q is h = absurd (cc)

pub on_false : (b : Bool) (P Q : Type 0) → b ≡ false → MatchBool b P Q → Q
on_false true P Q is h = absurd (cc)
on_false false P Q is h = h

-- what a found entry leads to, and none
pub goes_on : (study : StudyData) (earlier : List Current) (before after : ℕ → List Fields) (found : Option Current) (entry : Current) (n : ℕ)
    → GoesOn study earlier before after found → found ≡ Some entry
    → entries_from study earlier (before (suc n)) ≡ entries_from study (earlier ++ entry ∷ []) (after n)
goes_on study earlier before after None entry n goes is = absurd (cc)
goes_on study earlier before after (Some other) entry n goes is =
    let same : other ≡ entry = cc in goes n ∙ ap (λ e. entries_from study (earlier ++ e ∷ []) (after n)) same

pub ends_there : (study : StudyData) (earlier : List Current) (before after : ℕ → List Fields) (found : Option Current) (n : ℕ)
    → GoesOn study earlier before after found → found ≡ None → entries_from study earlier (before (suc n)) ≡ Ok earlier
ends_there study earlier before after None n goes is = goes n
ends_there study earlier before after (Some other) n goes is = absurd (cc)
