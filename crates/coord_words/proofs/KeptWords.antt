-- What clap has kept of the words after a command is what they say, and where it refuses them they say nothing.
use Rattle.std.proofs.Common.{◌≡◌, ◌∙◌, ◌++◌, Bool, cond, true, false, refl, sym, ap, subst, arith, inl, inr, List, [], ◌∷◌, map, Option, Some, None, Result, Ok, Err, IsErrAnd, codes, option_map, string_bytes, suc, zero, append-nil, append_assoc, true≢false}
use Rattle.std.specs.Prelude.{String, unwrap_or}
use Rattle.std.specs.List.{All, fold}
use Rattle.std.specs.Str.{IsUtf8, bytes_eq}
use Rattle.std.proofs.lemmas.Slice.Eq.{bytes_eq-Decides}
use Rattle.std.proofs.lemmas.Str.{IsUtf8-string_bytes}
use Rattle.clap.proofs.WalkLemmas.{raw_values-rows}
use Rattle.clap.specs.Faults.{fault_of, is_simple_and_free}
use Rattle.clap.specs.Kinds.{HasKind, IsAmong}
use Rattle.clap.specs.Matches.{found_of, matched_of, raw_values}
use Rattle.clap.specs.Simple.{App, HasMatchesOf, matches_of}
use Rattle.clap.specs.Values.{kind_of}
use Rattle.clap.specs.Walk.{Row, Text, all_of, more_values, nothing_held, rows_of, walk_from, with_values}
use Rattle.clap.specs.declared.builder.value_parser.Reading.TheVariants.{AsWritten}
use Rattle.clap.specs.declared.error.Error.{Error}
use Rattle.clap.specs.declared.parser.matches.ArgMatches.{ArgMatches}
use Rattle.clap.specs.declared.parser.matches.ValueSource.TheVariants.{CommandLine}
use Rattle.coord_words.specs.Kept.{Reads, kept_by, kept_in, kept_of}
use Rattle.coord_words.specs.Rules.{refusal_for, word_rules}
use Rattle.coord_words.specs.SaidUses.{uses_from}
use Rattle.coord_words.specs.Uses.{Flag, Use, budget, gap, is_same, name, names_in, option, text_of, words_of}
use Rattle.coord_words.specs.declared.command.WordsRefusal.{WordsRefusal}
use Rattle.coord_words.specs.declared.command.WordsRefusal.TheVariants.{NoMemory, Usage}
use Rattle.coord_words.proofs.ClapWalk.{Comes, outcome, put}

-- ---- rows

abbrev values : Text → List Row → List Text
values id rows = unwrap_or (all_of id rows) []

-- a use adds its word to its own id's
put_word : (to id word : Text) (rows : List Row) (rest : List Text) (b : Bool) → bytes_eq to id ≡ b
    → values id (with_values to AsWritten CommandLine (word ∷ []) rows) ++ rest ≡ values id rows ++ cond b (word ∷ rest) rest
put_word to id word [] rest true e = rw e refl
put_word to id word [] rest false e = rw e refl
put_word to id word (r ∷ rows) rest b e = go (bytes_eq r.id to) (bytes_eq r.id id) refl refl (put_word to id word rows rest b e)
  where
    go : (c d : Bool) → bytes_eq r.id to ≡ c → bytes_eq r.id id ≡ d
        → values id (with_values to AsWritten CommandLine (word ∷ []) rows) ++ rest ≡ values id rows ++ cond b (word ∷ rest) rest
        → values id (cond c (more_values CommandLine (word ∷ []) r ++ rows) (r ∷ with_values to AsWritten CommandLine (word ∷ []) rows)) ++ rest
        ≡ values id (r ∷ rows) ++ cond b (word ∷ rest) rest
    go true d here is others =
        let same : d ≡ b = sym is ∙ ap (λ t. bytes_eq t id) ((bytes_eq-Decides r.id to).0 here) ∙ e in
        by d is same
      where
        by : (d : Bool) → bytes_eq r.id id ≡ d → d ≡ b
            → values id (more_values CommandLine (word ∷ []) r ++ rows) ++ rest ≡ values id (r ∷ rows) ++ cond b (word ∷ rest) rest
        by true is same = rw (is, ← same) (append_assoc r.values (word ∷ []) rest)
        by false is same = rw (is, ← same) refl
    go false true apart is others = rw is (by b e)
      where
        by : (b : Bool) → bytes_eq to id ≡ b → r.values ++ rest ≡ r.values ++ cond b (word ∷ rest) rest
        by true e = absurd (true≢false (sym ((bytes_eq-Decides r.id to).1 ((bytes_eq-Decides r.id id).0 is ∙ sym ((bytes_eq-Decides to id).0 e))) ∙ apart))
        by false e = refl
    go false false apart is others = rw is others

no_flag : (flag : Flag) → bytes_eq (text_of flag) (codes "name") ≡ false
no_flag gap = refl
no_flag budget = refl

no_name : (flag : Flag) → bytes_eq (codes "name") (text_of flag) ≡ false
no_name gap = refl
no_name budget = refl

tells : (used flag : Flag) → bytes_eq (text_of used) (text_of flag) ≡ is_same used flag
tells gap gap = refl
tells gap budget = refl
tells budget gap = refl
tells budget budget = refl

names_kept : (uses : List Use) (rows : List Row) → values (codes "name") (fold put rows uses) ≡ values (codes "name") rows ++ names_in uses
names_kept [] rows = sym (append-nil (values (codes "name") rows))
names_kept (name word ∷ uses) rows =
    names_kept uses (put rows (name word)) ∙ put_word (codes "name") (codes "name") word rows (names_in uses) true refl
names_kept (option flag word ∷ uses) rows =
    names_kept uses (put rows (option flag word)) ∙ put_word (text_of flag) (codes "name") word rows (names_in uses) false (no_flag flag)

words_kept : (flag : Flag) (uses : List Use) (rows : List Row) → values (text_of flag) (fold put rows uses) ≡ values (text_of flag) rows ++ words_of flag uses
words_kept flag [] rows = sym (append-nil (values (text_of flag) rows))
words_kept flag (name word ∷ uses) rows =
    words_kept flag uses (put rows (name word)) ∙ put_word (codes "name") (text_of flag) word rows (words_of flag uses) false (no_name flag)
words_kept flag (option used word ∷ uses) rows =
    words_kept flag uses (put rows (option used word)) ∙ put_word (text_of used) (text_of flag) word rows (words_of flag uses) (is_same used flag) (tells used flag)

kept_is : (m : ArgMatches) (uses : List Use) → rows_of (found_of m) ≡ fold put [] uses → kept_by m ≡ kept_in uses
kept_is m uses rows = λ i. record { names = (of (codes "name") ∙ names_kept uses []) i; gaps = (of (text_of gap) ∙ words_kept gap uses []) i; budgets = (of (text_of budget) ∙ words_kept budget uses []) i }
  where
    of : (id : Text) → unwrap_or (option_map raw_values (matched_of (found_of m) id)) [] ≡ values id (fold put [] uses)
    of id = ap (λ o. unwrap_or o []) (raw_values-rows (found_of m) id) ∙ ap (values id) rows

-- ---- what clap answers

all_utf8 : {Z : Type 0} (words : List (String Z)) → All IsUtf8 (map string_bytes words)
all_utf8 [] k d lt = absurd (omega arith)
all_utf8 (word ∷ words) zero d lt = IsUtf8-string_bytes word
all_utf8 (word ∷ words) (suc k) d lt = all_utf8 words k d (omega arith)

module _ {Z : Type 0} (texts : List (String Z)) (a : App) (is : a ≡ word_rules) where
  abbrev words : List Text
  words = map string_bytes texts

  pub taken : (m : ArgMatches) → (is_simple_and_free a ≡ true → fault_of a words ≡ []) → HasMatchesOf a words m → kept_of words ≡ Some (kept_by m)
  taken m sound matches = go (uses_from words None) (outcome words (all_utf8 texts))
    where
      quiet : fault_of word_rules words ≡ []
      quiet = subst (λ x. is_simple_and_free x ≡ true → fault_of x words ≡ []) is sound refl

      rows : rows_of (found_of m) ≡ matches_of word_rules words
      rows = (subst (λ x. HasMatchesOf x words m) is matches refl).0

      go : (said : Option (List Use)) → Comes [] (walk_from nothing_held) words said → option_map kept_in said ≡ Some (kept_by m)
      go None refused = absurd (refused quiet)
      go (Some uses) keeps = ap Some (sym (kept_is m uses (rows ∙ keeps.kept)))

  pub refused : (e : Error) (r : Result ArgMatches WordsRefusal) → (is_simple_and_free a ≡ true → HasKind (fault_of a words) e)
      → IsErrAnd r (λ refusal. refusal ≡ refusal_for (kind_of e)) → Reads kept_by (kept_of words) r
  refused e (Ok m) kinds made = absurd made
  refused e (Err refusal) kinds made =
      subst (λ x. Reads kept_by (kept_of words) (Err x)) (sym made)
      (go (uses_from words None) (outcome words (all_utf8 texts)) (subst (λ x. is_simple_and_free x ≡ true → HasKind (fault_of x words) e) is kinds refl))
    where
      unsaid : (refusal : WordsRefusal) → Reads kept_by None (Err refusal)
      unsaid Usage = refl
      unsaid NoMemory = tt

      go : (said : Option (List Use)) → Comes [] (walk_from nothing_held) words said → HasKind (fault_of word_rules words) e
          → Reads kept_by (option_map kept_in said) (Err (refusal_for (kind_of e)))
      go said comes (inl memory) = rw memory tt
      go None comes (inr among) = unsaid (refusal_for (kind_of e))
      go (Some uses) keeps (inr among) = absurd (subst (IsAmong (kind_of e)) keeps.quiet among)
