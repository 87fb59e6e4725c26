-- What clap makes of the words after a command: it keeps the uses that they say, and refuses words that say nothing.
use Rattle.std.proofs.Common.{◌≡◌, ◌∙◌, ◌&&◌, ◌||◌, ℕ, Bool, cond, true, false, suc, refl, sym, ap, ap₂, subst, arith, List, [], ◌∷◌, length, map, Option, Some, None, codes, is_some, option_map}
use Rattle.std.specs.List.{All, fold}
use Rattle.std.specs.Prelude.{slice_get}
use Rattle.std.specs.Str.{IsUtf8, bytes_eq, chars}
use Rattle.std.proofs.Math.Bool.{or-false, or-true}
use Rattle.clap.specs.Faults.{check_fault, default_fault, defaults_fault, entered_fault, flags_fault, long_fault, settle_fault, step_fault, turn_fault, walk_fault, word_fault}
use Rattle.clap.specs.Kinds.{Kinds, or_else}
use Rattle.clap.specs.Lexer.{long_of, short_of}
use Rattle.clap.specs.Simple.{App, Shape, entered, new_shape}
use Rattle.clap.specs.Walk.{Held, Row, Rule, Step, Text, Waiting, Walk, after_step, arg_by_id, arg_by_long, finished, has_row, idle, is_pending, next, nothing_held, option as waits_for, plain_word, positional, pushed, settled, subcommand_met, used, value, walk_from, walked, with_default, with_values, word_met}
use Rattle.clap.specs.declared.builder.value_parser.Reading.TheVariants.{AsWritten}
use Rattle.clap.specs.declared.builder.value_parser.ValueParser.TheVariants as parser
use Rattle.clap.specs.declared.error.kind.ErrorKind.{ErrorKind}
use Rattle.clap.specs.declared.error.kind.ErrorKind.TheVariants.{InvalidValue, UnknownArgument}
use Rattle.clap.specs.declared.parser.matches.ValueSource.TheVariants.{CommandLine}
use Rattle.coord_words.specs.Rules.{name_rule, option_rule}
use Rattle.coord_words.specs.SaidUses.{after, flag_of, opens_names, option_in, uses_from, with_word, word_in}
use Rattle.coord_words.specs.Uses.{Flag, Use, budget, gap, name, option, text_of}
use Rattle.coord_words.proofs.WordKinds.{Kind, a_name, kind_of_word, long_flag, marker, short_flag}

-- the rules as clap builds them
abbrev names_rule : Rule
names_rule = record name_rule {
  index = Some 1;
  range = Some (record { start_inclusive = 1; end_inclusive = 1 });
  parser = Some parser.String;
}

abbrev filled : Flag → Rule
filled flag = record (option_rule (text_of flag)) {
  range = Some (record { start_inclusive = 1; end_inclusive = 1 });
  parser = Some parser.String;
}

abbrev pub rules : List Rule
rules = names_rule ∷ filled gap ∷ filled budget ∷ []

abbrev taker : Shape
taker = record (new_shape (codes "coord")) {
  rules = rules;
  no_binary_name = true;
  disable_help_flag = true;
  disable_help_subcommand = true;
  disable_version_flag = true;
  is_built = true;
}

abbrev pub app : App
app = record { top = taker; subs = [] }

-- ---- what is found

by_id : (flag : Flag) → arg_by_id rules (text_of flag) ≡ Some (filled flag)
by_id gap = refl
by_id budget = refl

by_long : (word : Text) → arg_by_long rules word ≡ option_map filled (flag_of word)
by_long word = go (bytes_eq (text_of gap) word) (bytes_eq (text_of budget) word)
  where
    go : (a b : Bool) → cond (a || false) (Some (filled gap)) (cond (b || false) (Some (filled budget)) None)
        ≡ option_map filled (cond a (Some gap) (cond b (Some budget) None))
    go true b = refl
    go false true = refl
    go false false = refl

no_sub : (waiting : Waiting) (word : Text) → subcommand_met [] waiting word ≡ None
no_sub idle word = refl
no_sub (waits_for id) word = refl
no_sub positional word = refl

-- ---- faults

kind_none : (kind : ErrorKind) (more : Kinds) → kind ∷ more ≡ [] → ⊥
kind_none kind more e = omega (arith, ap length e)

first_none : (faults more : Kinds) → or_else faults more ≡ [] → faults ≡ []
first_none [] more none = refl
first_none (kind ∷ faults) more none = none

-- faults that are one kind are some
some_kind : (faults : Kinds) (kind : ErrorKind) → faults ≡ kind ∷ [] → faults ≡ [] → ⊥
some_kind faults kind is none = kind_none kind [] (sym is ∙ none)

and_false : {X : Type 0} (b : Bool) (x y : X) → cond (b && false) x y ≡ y
and_false true x y = refl
and_false false x y = refl

-- ---- at the end of the words: no rule has a default, and none is required

same_rows : (b : Bool) (rows : List Row) → cond b rows rows ≡ rows
same_rows true rows = refl
same_rows false rows = refl

kept_rows : (rows : List Row) → fold with_default rows rules ≡ rows
kept_rows rows =
    ap (λ rs. with_default (with_default rs (filled gap)) (filled budget)) (same_rows (has_row (codes "name") rows) rows)
    ∙ ap (λ rs. with_default rs (filled budget)) (same_rows (has_row (text_of gap) rows) rows)
    ∙ same_rows (has_row (text_of budget) rows) rows

no_fault : (b : Bool) (kinds : Kinds) → cond (b || true) [] kinds ≡ []
no_fault b kinds = rw (or-true b) refl

no_default : (rows : List Row) (a : Rule) → a.defaults ≡ [] → default_fault rows a ≡ []
no_default rows a none = rw (none, or-true (has_row a.id rows)) refl

no_defaults : (rows : List Row) → defaults_fault rows rules ≡ []
unfolding defaults_fault
no_defaults rows =
    ap₂ or_else (no_default rows names_rule refl)
    (ap₂ or_else (no_default (with_default rows names_rule) (filled gap) refl)
    (ap₂ or_else (no_default (with_default (with_default rows names_rule) (filled gap)) (filled budget) refl) refl))

-- what is wrong once all words are read
abbrev faults_after : Walk → Kinds
faults_after end =
    or_else (entered_fault app end.stopped)
    (or_else (settle_fault rules false end.held)
    (or_else (defaults_fault (settled rules end.held).rows rules)
    (check_fault taker (finished rules end.held) (is_some (entered app end.stopped)))))

-- ---- the words from a state of the walk on

abbrev total : Walk → List Text → Kinds
total w words = or_else (walk_fault taker [] w words) (faults_after (fold (walked rules []) w words))

-- the rows after one more use
abbrev pub put : List Row → Use → List Row
put rows (name word) = with_values (codes "name") AsWritten CommandLine (word ∷ []) rows
put rows (option flag word) = with_values (text_of flag) AsWritten CommandLine (word ∷ []) rows

-- clap takes the words, and keeps these uses after those before
pub record Keeps (rows : List Row) (w : Walk) (words : List Text) (uses : List Use) : Type 0 where
  pub quiet : total w words ≡ []
  pub kept : finished rules (fold (walked rules []) w words).held ≡ fold put rows uses

-- it keeps what they say, or refuses them
abbrev pub Comes : List Row → Walk → List Text → Option (List Use) → Type 0
Comes rows w words None = total w words ≡ [] → ⊥
Comes rows w words (Some uses) = Keeps rows w words uses

-- names have one place, the first
abbrev state : Held → Waiting → Bool → Walk
state h waiting is_trailing = record { held = h; waiting = waiting; position = 1; is_trailing = is_trailing; stopped = None }

total_on : (w : Walk) (word : Text) (words : List Text) (then : Walk) → turn_fault taker [] w word ≡ [] → walked rules [] w word ≡ then
    → total w (word ∷ words) ≡ total then words
unfolding walk_fault
total_on w word words then quiet goes =
    ap (λ (k : Kinds). or_else (or_else k (walk_fault taker [] (walked rules [] w word) words)) (faults_after (fold (walked rules []) (walked rules [] w word) words))) quiet
    ∙ ap (λ (x : Walk). total x words) goes

-- a word with a fault is refused, whatever follows it
refused : (w : Walk) (word : Text) (words : List Text) → (turn_fault taker [] w word ≡ [] → ⊥) → total w (word ∷ words) ≡ [] → ⊥
unfolding walk_fault
refused w word words wrong none = wrong (first_none _ _ (first_none _ _ none))

-- a word that is no use by itself, and the words after it
passed : (rows : List Row) (said : Option (List Use)) (w : Walk) (word : Text) (words : List Text) (then : Walk) → turn_fault taker [] w word ≡ [] → walked rules [] w word ≡ then
    → Comes rows then words said → Comes rows w (word ∷ words) said
passed rows None w word words then quiet goes tail = λ none. tail (sym (total_on w word words then quiet goes) ∙ none)
passed rows (Some uses) w word words then quiet goes tail = record {
  quiet = total_on w word words then quiet goes ∙ tail.quiet;
  kept = ap (λ (x : Walk). finished rules (fold (walked rules []) x words).held) goes ∙ tail.kept;
}

-- a word that ends one more use, and the words after it
more : (rows : List Row) (one : Use) (said : Option (List Use)) (w : Walk) (word : Text) (words : List Text) (then : Walk) → turn_fault taker [] w word ≡ [] → walked rules [] w word ≡ then
    → Comes (put rows one) then words said → Comes rows w (word ∷ words) (after one said)
more rows one None w word words then quiet goes tail = passed rows None w word words then quiet goes tail
more rows one (Some uses) w word words then quiet goes tail =
    let same = passed (put rows one) (Some uses) w word words then quiet goes tail in record { quiet = same.quiet; kept = same.kept }

-- nothing is wrong so far, and no option awaits its word
pub record IsReady (h : Held) (waiting : Waiting) : Type 0 where
  pub quiet : settle_fault rules false h ≡ []
  pub skip : h.skip ≡ 0
  pub calm : (word : Text) → plain_word rules waiting word h ≡ (h, value)

-- ---- a name

abbrev named : Held → Text → Held
named h word = pushed (codes "name") word (settled rules h)

name_read : (h : Held) (waiting : Waiting) (is_trailing : Bool) (word : Text) (words : List Text) (said : Option (List Use)) → IsReady h waiting
    → word_met rules [] is_trailing waiting 1 word h ≡ (h, value) → word_fault taker [] is_trailing waiting word h ≡ []
    → (IsReady (named h word) positional → Comes (settled rules (named h word)).rows (state (named h word) positional is_trailing) words said)
    → Comes (settled rules h).rows (state h waiting is_trailing) (word ∷ words) (after (name word) said)
unfolding walked
name_read h waiting is_trailing word words said ready met quiet tail =
    let turn : turn_fault taker [] (state h waiting is_trailing) word ≡ [] =
    ap₂ or_else quiet (ap (λ (p : Held × Step). step_fault taker 1 p.0 p.1) met ∙ and_false (is_pending names_rule h.pending) [] (settle_fault rules false h) ∙ ready.quiet) in
    let goes : walked rules [] (state h waiting is_trailing) word ≡ state (named h word) positional is_trailing =
    ap (λ (p : Held × Step). after_step rules word (state h waiting is_trailing) p.0 p.1) met
    ∙ ap₂ (λ (x : Held) (t : Bool). state (pushed (codes "name") word x) positional t) (and_false (is_pending names_rule h.pending) h (settled rules h)) (or-false is_trailing) in
    more (settled rules h).rows (name word) said (state h waiting is_trailing) word words (state (named h word) positional is_trailing) turn goes
    (tail (record { quiet = refl; skip = ready.skip; calm = λ _. refl }))

none_left : (h : Held) (waiting : Waiting) (is_trailing : Bool) → settle_fault rules false h ≡ [] → Keeps (settled rules h).rows (state h waiting is_trailing) [] []
unfolding walk_fault
none_left h waiting is_trailing quiet = record {
  quiet = ap₂ or_else quiet (ap₂ or_else (no_defaults (settled rules h).rows) refl);
  kept = kept_rows (settled rules h).rows;
}

-- after `--` every word is a name
trailing : (words : List Text) (h : Held) (waiting : Waiting) → IsReady h waiting → Comes (settled rules h).rows (state h waiting true) words (Some (map name words))
trailing [] h waiting ready = none_left h waiting true ready.quiet
trailing (word ∷ words) h waiting ready =
    name_read h waiting true word words (Some (map name words)) ready refl refl (trailing words (named h word) positional)

-- ---- an option that awaits its word

abbrev awaiting : List Row → Flag → Held
awaiting rows flag = record { rows = rows; pending = Some (text_of flag, []); skip = 0 }

-- it has none yet
lacks : (rows : List Row) (flag : Flag) → settle_fault rules false (awaiting rows flag) ≡ [] → ⊥
lacks rows gap none = kind_none InvalidValue [] none
lacks rows budget none = kind_none InvalidValue [] none

-- after `--` it gets none
never : (rows : List Row) (flag : Flag) (words : List Text) → total (state (awaiting rows flag) (waits_for (text_of flag)) true) words ≡ [] → ⊥
unfolding walk_fault
never rows flag [] none = lacks rows flag (first_none _ _ none)
never rows flag (word ∷ words) none =
    refused (state (awaiting rows flag) (waits_for (text_of flag)) true) word words
    (λ quiet. lacks rows flag (sym (and_false (is_pending names_rule (awaiting rows flag).pending) [] (settle_fault rules false (awaiting rows flag))) ∙ quiet)) none

-- ---- a word that begins with `-`

long_is : (h : Held) (waiting : Waiting) (word : Text) → opens_names word ≡ false → long_of word ≡ Some (option_in word, word_in word)
    → word_fault taker [] false waiting word h ≡ long_fault rules false (option_map filled (flag_of (option_in word))) (word_in word) h
long_is h waiting word no_end long = rw (no_sub waiting word, no_end, long, by_long (option_in word)) refl

-- a short flag is refused
short_wrong : (h : Held) (waiting : Waiting) (word : Text) → h.skip ≡ 0 → opens_names word ≡ false → long_of word ≡ None → (y : ℕ) (rest : List ℕ) → short_of word ≡ Some (y ∷ rest)
    → (c : ℕ) → slice_get (chars (y ∷ rest)) 0 ≡ Some c → word_fault taker [] false waiting word h ≡ UnknownArgument ∷ []
unfolding flags_fault
short_wrong h waiting word skip no_end long y rest short c first = rw (no_sub waiting word, no_end, long, short, skip, first) refl

-- ---- the words after a command

abbrev Idle : List Text → Type 0
Idle words = (h : Held) (waiting : Waiting) → IsReady h waiting → Comes (settled rules h).rows (state h waiting false) words (uses_from words None)

abbrev Awaits : List Text → Type 0
Awaits words = (rows : List Row) (flag : Flag) → Comes rows (state (awaiting rows flag) (waits_for (text_of flag)) false) words (uses_from words (Some flag))

module _ (word : Text) (words : List Text) (idly : Idle words) where
  -- an option with its word attached
  attached_read : (h : Held) (waiting : Waiting) → IsReady h waiting → (flag : Flag) (given : Text) → opens_names word ≡ false
      → long_of word ≡ Some (option_in word, Some given) → flag_of (option_in word) ≡ Some flag
      → Comes (settled rules h).rows (state h waiting false) (word ∷ words) (after (option flag given) (uses_from words None))
  unfolding walked
  attached_read h waiting ready flag given no_end long known =
      let now : Held = record h { rows = used (filled flag) (given ∷ []) (settled rules h).rows; pending = None } in
      let met : word_met rules [] false waiting 1 word h ≡ (now, next idle) = rw (no_sub waiting word, no_end, long, by_long (option_in word), known) refl in
      let fault : word_fault taker [] false waiting word h ≡ [] = rw (no_sub waiting word, no_end, long, by_long (option_in word), known) (ap₂ or_else ready.quiet refl) in
      more (settled rules h).rows (option flag given) (uses_from words None) (state h waiting false) word words (state now idle false)
      (ap₂ or_else fault (ap (λ (p : Held × Step). step_fault taker 1 p.0 p.1) met))
      (ap (λ (p : Held × Step). after_step rules word (state h waiting false) p.0 p.1) met)
      (idly now idle (record { quiet = refl; skip = ready.skip; calm = λ _. refl }))

  -- an option without it
  opened_read : Awaits words → (h : Held) (waiting : Waiting) → IsReady h waiting → (flag : Flag) → opens_names word ≡ false
      → long_of word ≡ Some (option_in word, None) → flag_of (option_in word) ≡ Some flag
      → Comes (settled rules h).rows (state h waiting false) (word ∷ words) (uses_from words (Some flag))
  unfolding walked
  opened_read awaits h waiting ready flag no_end long known =
      let now : Held = record (settled rules h) { pending = Some (text_of flag, []) } in
      let met : word_met rules [] false waiting 1 word h ≡ (now, next (waits_for (text_of flag))) = rw (no_sub waiting word, no_end, long, by_long (option_in word), known) refl in
      let fault : word_fault taker [] false waiting word h ≡ [] = rw (no_sub waiting word, no_end, long, by_long (option_in word), known) ready.quiet in
      let same : now ≡ awaiting (settled rules h).rows flag = ap (λ n. record { rows = (settled rules h).rows; pending = Some (text_of flag, []); skip = n }) ready.skip in
      passed (settled rules h).rows (uses_from words (Some flag)) (state h waiting false) word words (state (awaiting (settled rules h).rows flag) (waits_for (text_of flag)) false)
      (ap₂ or_else fault (ap (λ (p : Held × Step). step_fault taker 1 p.0 p.1) met))
      (ap (λ (p : Held × Step). after_step rules word (state h waiting false) p.0 p.1) met ∙ ap (λ (x : Held). state x (waits_for (text_of flag)) false) same)
      (awaits (settled rules h).rows flag)

  -- a word that an option awaits
  awaited_read : (rows : List Row) (flag : Flag) → opens_names word ≡ false → long_of word ≡ None → short_of word ≡ None
      → Comes rows (state (awaiting rows flag) (waits_for (text_of flag)) false) (word ∷ words) (after (option flag word) (uses_from words None))
  unfolding walked
  awaited_read rows gap no_end long short =
      more rows (option gap word) (uses_from words None) (state (awaiting rows gap) (waits_for (text_of gap)) false) word words
      (state (pushed (text_of gap) word (awaiting rows gap)) idle false) (rw (no_end, long, short) refl) (rw (no_end, long, short) refl)
      (idly (pushed (text_of gap) word (awaiting rows gap)) idle (record { quiet = refl; skip = refl; calm = λ _. refl }))
  awaited_read rows budget no_end long short =
      more rows (option budget word) (uses_from words None) (state (awaiting rows budget) (waits_for (text_of budget)) false) word words
      (state (pushed (text_of budget) word (awaiting rows budget)) idle false) (rw (no_end, long, short) refl) (rw (no_end, long, short) refl)
      (idly (pushed (text_of budget) word (awaiting rows budget)) idle (record { quiet = refl; skip = refl; calm = λ _. refl }))

  -- no option awaits its word
  idle_read : Awaits words → Kind word → Idle (word ∷ words)
  unfolding uses_from walked
  idle_read awaits (marker ends is) h waiting ready =
      let said : uses_from (word ∷ words) None ≡ Some (map name words) = rw ends refl in
      subst (λ o. Comes (settled rules h).rows (state h waiting false) (word ∷ words) o) (sym said)
      (passed (settled rules h).rows (Some (map name words)) (state h waiting false) word words (state h waiting true)
      (rw (no_sub waiting word, ends) refl) (rw (no_sub waiting word, ends) refl) (trailing words h waiting ready))
  idle_read awaits (a_name no_end is long short) h waiting ready =
      let said : uses_from (word ∷ words) None ≡ after (name word) (uses_from words None) = rw (no_end, is) refl in
      subst (λ o. Comes (settled rules h).rows (state h waiting false) (word ∷ words) o) (sym said)
      (name_read h waiting false word words (uses_from words None) ready (rw (no_sub waiting word, no_end, long, short) (ready.calm word))
      (rw (no_sub waiting word, no_end, long, short) refl) (idly (named h word) positional))
  idle_read awaits (long_flag no_end is dashes long) h waiting ready = by_flag (flag_of (option_in word)) refl
    where
      by_word : (flag : Flag) → flag_of (option_in word) ≡ Some flag → (attached : Option Text) → word_in word ≡ attached
          → Comes (settled rules h).rows (state h waiting false) (word ∷ words) (with_word flag attached (uses_from words))
      by_word flag known (Some given) same = attached_read h waiting ready flag given no_end (long ∙ ap (λ o. Some (option_in word, o)) same) known
      by_word flag known None same = opened_read awaits h waiting ready flag no_end (long ∙ ap (λ o. Some (option_in word, o)) same) known

      by_flag : (o : Option Flag) → flag_of (option_in word) ≡ o → Comes (settled rules h).rows (state h waiting false) (word ∷ words) (uses_from (word ∷ words) None)
      by_flag (Some flag) known =
          let said : uses_from (word ∷ words) None ≡ with_word flag (word_in word) (uses_from words) = rw (no_end, is, dashes, known) refl in
          subst (λ o. Comes (settled rules h).rows (state h waiting false) (word ∷ words) o) (sym said) (by_word flag known (word_in word) refl)
      by_flag None unknown =
          let said : uses_from (word ∷ words) None ≡ None = rw (no_end, is, dashes, unknown) refl in
          let fault : word_fault taker [] false waiting word h ≡ UnknownArgument ∷ [] =
          long_is h waiting word no_end long ∙ ap (λ o. long_fault rules false (option_map filled o) (word_in word) h) unknown in
          subst (λ o. Comes (settled rules h).rows (state h waiting false) (word ∷ words) o) (sym said)
          (refused (state h waiting false) word words (λ quiet. some_kind _ UnknownArgument fault (first_none _ _ quiet)))
  idle_read awaits (short_flag no_end is dashes long y rest short c first) h waiting ready =
      let said : uses_from (word ∷ words) None ≡ None = rw (no_end, is, dashes) refl in
      subst (λ o. Comes (settled rules h).rows (state h waiting false) (word ∷ words) o) (sym said)
      (refused (state h waiting false) word words
      (λ quiet. some_kind _ UnknownArgument (short_wrong h waiting word ready.skip no_end long y rest short c first) (first_none _ _ quiet)))

  -- one does
  awaits_read : Kind word → Awaits (word ∷ words)
  unfolding uses_from walked
  awaits_read (a_name no_end is long short) rows flag =
      let said : uses_from (word ∷ words) (Some flag) ≡ after (option flag word) (uses_from words None) = rw is refl in
      subst (λ o. Comes rows (state (awaiting rows flag) (waits_for (text_of flag)) false) (word ∷ words) o) (sym said) (awaited_read rows flag no_end long short)
  awaits_read (marker ends is) rows flag =
      let said : uses_from (word ∷ words) (Some flag) ≡ None = rw is refl in
      let w = state (awaiting rows flag) (waits_for (text_of flag)) false in
      subst (λ o. Comes rows w (word ∷ words) o) (sym said)
      (passed rows None w word words (state (awaiting rows flag) (waits_for (text_of flag)) true) (rw ends refl) (rw ends refl) (never rows flag words))
  awaits_read (long_flag no_end is dashes long) rows flag =
      let said : uses_from (word ∷ words) (Some flag) ≡ None = rw is refl in
      let w = state (awaiting rows flag) (waits_for (text_of flag)) false in
      subst (λ o. Comes rows w (word ∷ words) o) (sym said)
      (refused w word words (λ quiet. lone (flag_of (option_in word)) (word_in word)
      (sym (long_is (awaiting rows flag) (waits_for (text_of flag)) word no_end long) ∙ first_none _ _ quiet)))
    where
      lone : (o : Option Flag) (attached : Option Text) → long_fault rules false (option_map filled o) attached (awaiting rows flag) ≡ [] → ⊥
      lone None attached none = kind_none UnknownArgument [] none
      lone (Some other) (Some given) none = lacks rows flag (first_none _ _ none)
      lone (Some other) None none = lacks rows flag none
  awaits_read (short_flag no_end is dashes long y rest short c first) rows flag =
      let said : uses_from (word ∷ words) (Some flag) ≡ None = rw is refl in
      let w = state (awaiting rows flag) (waits_for (text_of flag)) false in
      subst (λ o. Comes rows w (word ∷ words) o) (sym said)
      (refused w word words
      (λ quiet. some_kind _ UnknownArgument (short_wrong (awaiting rows flag) (waits_for (text_of flag)) word refl no_end long y rest short c first) (first_none _ _ quiet)))

walk_on : (words : List Text) → All IsUtf8 words → Idle words × Awaits words
unfolding uses_from walk_fault
walk_on [] utf8 = (λ h waiting ready. none_left h waiting false ready.quiet, λ rows flag none. lacks rows flag (first_none _ _ none))
walk_on (word ∷ words) utf8 =
    let kind = kind_of_word word (utf8 0 word (omega arith)) in
    let rest = walk_on words (λ k d lt. utf8 (suc k) d (omega arith)) in
    (idle_read word words rest.0 rest.1 kind, awaits_read word words rest.0 kind)

-- what clap makes of all words after a command
pub outcome : (words : List Text) → All IsUtf8 words → Comes [] (walk_from nothing_held) words (uses_from words None)
outcome words utf8 = (walk_on words utf8).0 nothing_held idle (record { quiet = refl; skip = refl; calm = λ _. refl })
