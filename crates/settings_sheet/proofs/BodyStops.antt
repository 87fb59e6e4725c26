use Rattle.std.proofs.Common.{◌≡◌, ◌≢◌, inl, inr, ℕ, ◌+◌, ◌-◌, ◌<◌, true, Option, Some, None, is_some, List, [], ◌∷◌, ◌++◌, length, drop, map, get_or, refl, sym, ap, subst, ◌∙◌, append_assoc, append-nil, length-append, arith}
use Rattle.std.specs.List.{range_with_len}
use Rattle.std.specs.Option.{option_map_or}
use Rattle.std.specs.Prelude.{codes, slice_get, slice_index, IfSome, IsSome}
use Rattle.std.proofs.lemmas.Grind.{flat_map-append}
use Rattle.std.proofs.lemmas.List.{append_cancel_left, get_or-append_right, get_or_append_left, take-append-drop}
use Rattle.std.proofs.lemmas.List.FromFn.{get_or-map-range_with_len, length-map-range_with_len, take-map-range_with_len}
use Rattle.std.proofs.lemmas.Option.{slice_get_cases}
use Rattle.coord_model.specs.Allowed.{AreOnSteps, IsOnSteps}
use Rattle.coord_model.specs.Choice.{Settings}
use Rattle.coord_model.specs.Limits.{FitsStudy}
use Rattle.coord_model.specs.StudyData.{StudyData}
use Rattle.coord_text.specs.Claims.{text_of}
use Rattle.coord_text.proofs.Digits.{same_parts}
use Rattle.coord_text.proofs.ClaimLines.{ending_is_line}
use Rattle.settings_sheet.specs.RelayStops.{AreNames, RelayStop, first_lines}
use Rattle.settings_sheet.specs.SheetData.{IsSheet, SheetData}
use Rattle.settings_sheet.specs.SheetFaults.{StopsAt}
use Rattle.settings_sheet.specs.SheetLines.{kind_at, relay_words, relay_words_at, settings_lines, sheet_lines, head_lines}
use Rattle.settings_sheet.specs.SheetText.{sheet_text}
use Rattle.settings_sheet.specs.Stages.{GoesOn, HasHead, HasSettings, LacksEnd}
use Rattle.settings_sheet.specs.declared.head.Head.{Head}
use Rattle.settings_sheet.specs.declared.refusal.SheetKind.{SheetKind}
use Rattle.settings_sheet.proofs.Peeled.{AreFirst, AreLines, Peeled, peel, stops_here}
use Rattle.settings_sheet.proofs.SameSettings.{same_settings}
use Rattle.settings_sheet.proofs.Spelled.{bound_is_line, cost_is_line, format_is_line}
use Rattle.settings_sheet.proofs.TailStops.{after_due, end_due, first_of_settings, lines_of_range, relay_due, same_head, there, words_are_line}

-- lines that follow lines
pub split_more : (bytes left rest : List ℕ) (xs ys : List (List ℕ)) → bytes ≡ text_of xs ++ left → left ≡ text_of ys ++ rest → bytes ≡ text_of (xs ++ ys) ++ rest
split_more bytes left rest xs ys said next =
    said ∙ ap (λ w. text_of xs ++ w) next ∙ sym (append_assoc (text_of xs) (text_of ys) rest) ∙ ap (λ w. w ++ rest) (sym (flat_map-append (λ l. l ++ 10 ∷ []) xs ys))

module _ (study : StudyData) (fits : FitsStudy study) (bytes left : List ℕ) (head : Head) (has : HasHead bytes head left) where
  -- the lines of the head, and others behind them
  lines_behind : (xs : List (List ℕ)) → AreLines xs → AreLines (head_lines head.ending head.cost head.bound ++ xs)
  lines_behind xs each = (format_is_line, (ending_is_line head.ending, (cost_is_line head.cost has.cost_short, (bound_is_line head.bound has.bound_short, each))))

  first_behind : (xs : List (List ℕ)) (other : SheetData) → IsSheet study other → AreFirst xs (settings_lines study other.settings ++ codes "end" ∷ [])
      → AreFirst (head_lines head.ending head.cost head.bound ++ xs) (sheet_lines study other)
  first_behind xs other is each = (format_is_line, (ending_is_line other.ending, (cost_is_line other.cost is.cost_short, (bound_is_line other.bound is.bound_short, each))))

  -- the sheet of the head with settings
  is_with : (settings : Option Settings) → is_some settings ≡ is_some head.cost → IfSome settings (AreOnSteps study) → IsSheet study (record { ending = head.ending; cost = head.cost; bound = head.bound; settings = settings })
  is_with settings issued on_steps = record {
    cost_goes = has.cost_goes;
    bound_goes = has.bound_goes;
    cost_short = has.cost_short;
    bound_short = has.bound_short;
    issued = issued;
    on_steps = on_steps;
  }

  -- no line of the relay with a number stands there
  line_dead : (at : ℕ) → at < length study.relays → (settings : Settings) → AreOnSteps study settings → (line : List ℕ) → relay_words_at study settings at ≡ line
      → (text : List ℕ) → IfSome (slice_get study.relays at) (λ relay. (pickup dial : ℕ) (rest : List ℕ) → IsOnSteps relay pickup dial → text ≢ relay_words relay pickup dial ++ 10 ∷ rest)
      → (rest : List ℕ) → text ≢ line ++ 10 ∷ rest
  line_dead at within settings on_steps line line_is text no_such rest stands =
      let pickup = slice_index settings.pickup at in
      let dial = slice_index settings.dial at in
      elim ((slice_get_cases study.relays at).1) [
        | inl found ↦
            let none = subst (λ o. IfSome o (λ relay. (pickup dial : ℕ) (rest : List ℕ) → IsOnSteps relay pickup dial → text ≢ relay_words relay pickup dial ++ 10 ∷ rest)) found.2 no_such in
            let on = subst (λ o. IfSome o (λ relay. IsOnSteps relay pickup dial)) found.2 (on_steps.steps at) in
            let words : relay_words found.0 pickup dial ≡ line = ap (λ o. option_map_or (λ r. relay_words r pickup dial) o []) (sym found.2) ∙ line_is in
            none pickup dial rest on (stands ∙ ap (λ l. l ++ 10 ∷ rest) (sym words))
        | inr past ↦ absurd (omega (arith, past.0))
      ]

  -- the lines of the relays stop
  pub relay_stops : IsSome head.cost → (line : ℕ) (kind : SheetKind) → RelayStop study left line kind → StopsAt study bytes line kind
  relay_stops some line kind stop =
      let n = length study.relays in
      let at = stop.at in
      let words = relay_words_at study stop.settings in
      let first = first_lines study stop.settings at in
      let lines = head_lines head.ending head.cost head.bound in
      let end : List (List ℕ) = codes "end" ∷ [] in
      let sheet : SheetData = record { ending = head.ending; cost = head.cost; bound = head.bound; settings = Some stop.settings } in
      let behind = drop at (map words (range_with_len 0 n)) in
      let front : map words (range_with_len 0 n) ≡ first ++ behind =
      sym (take-append-drop at (map words (range_with_len 0 n))) ∙ ap (λ l. l ++ behind) (take-map-range_with_len words 0 n at (omega (arith, stop.in_study))) in
      let count : length first ≡ at = length-map-range_with_len words 0 at in
      let total : length (lines ++ first) + 1 ≡ at + 5 = omega (arith, length-append lines first, count) in
      stops_here study bytes sheet (is_with (Some stop.settings) (sym some) stop.on_steps) (lines ++ first) (behind ++ end)
      (ap (λ l. lines ++ (l ++ end)) front ∙ ap (λ l. lines ++ l) (append_assoc first behind end) ∙ sym (append_assoc lines first (behind ++ end)))
      stop.left (split_more bytes left stop.left lines first has.parts stop.parts) kind
      (stop.due ∙ sym (relay_due study sheet at (omega (arith, length-map-range_with_len words 0 n, stop.in_study))) ∙ ap (kind_at study sheet) (sym total))
      (lines_behind first (lines_of_range words 0 at (λ j below. words_are_line study fits stop.settings j stop.on_steps (stop.names j (omega arith)))))
      (λ other is. first_behind first other is (first_of_settings study fits words at (λ j below. stop.names j (omega arith)) other.settings is.on_steps))
      (λ other is same.
      let agree = same_head study other is head.ending head.cost head.bound first has.cost_short has.bound_short same in
      let found = there other.settings (is.issued ∙ ap is_some agree.cost_is ∙ some) in
      absurd (omega (
        arith,
        ap length agree.tail,
        length-append (settings_lines study other.settings) end,
        ap (λ o. length (settings_lines study o)) found.1,
        length-map-range_with_len (relay_words_at study found.0) 0 n,
        count,
        stop.in_study,
      )))
      (λ other is line after parts rest stands.
      let agree = same_head study other is head.ending head.cost head.bound (first ++ line ∷ after) has.cost_short has.bound_short (parts ∙ append_assoc lines first (line ∷ after)) in
      let found = there other.settings (is.issued ∙ ap is_some agree.cost_is ∙ some) in
      let theirs = relay_words_at study found.0 in
      let tail : map theirs (range_with_len 0 n) ++ end ≡ first ++ line ∷ after = ap (λ o. settings_lines study o ++ end) (sym found.1) ∙ agree.tail in
      let long : length (map theirs (range_with_len 0 n)) ≡ n = length-map-range_with_len theirs 0 n in
      let here : get_or (map theirs (range_with_len 0 n) ++ end) at [] ≡ theirs at =
      get_or_append_left (map theirs (range_with_len 0 n)) end [] at (omega (arith, long, stop.in_study)) ∙ get_or-map-range_with_len theirs 0 n at at [] stop.in_study (omega arith) in
      let none : at - at ≡ 0 = omega arith in
      let beside : get_or (first ++ line ∷ after) at [] ≡ line =
      get_or-append_right first (line ∷ after) at at [] count (omega arith) ∙ ap (λ k. get_or (line ∷ after) k []) none in
      line_dead at stop.in_study found.0 (subst (λ o. IfSome o (AreOnSteps study)) found.1 is.on_steps) line (sym here ∙ ap (λ l. get_or l at []) tail ∙ beside) stop.left stop.no_such rest stands)
      line (stop.number ∙ sym total)

-- sheets that both have settings or both have none have equally many lines
settings_count : (study : StudyData) (a b : Option Settings) → is_some a ≡ is_some b → length (settings_lines study a) ≡ length (settings_lines study b)
settings_count study None None same = refl
settings_count study None (Some b) same = absurd (cc)
settings_count study (Some a) None same = absurd (cc)
settings_count study (Some a) (Some b) same =
    length-map-range_with_len (relay_words_at study a) 0 (length study.relays) ∙ sym (length-map-range_with_len (relay_words_at study b) 0 (length study.relays))

-- the lines of settings are lines, and so are the first of any sheet beside them
settings_are_lines : (study : StudyData) → FitsStudy study → (settings : Option Settings) → (is_some settings ≡ true → AreNames study) → IfSome settings (AreOnSteps study) → AreLines (settings_lines study settings)
settings_are_lines study fits None names on_steps = tt
settings_are_lines study fits (Some settings) names on_steps =
    lines_of_range (relay_words_at study settings) 0 (length study.relays) (λ j below. words_are_line study fits settings j on_steps (names refl j (omega arith)))

settings_are_first : (study : StudyData) → FitsStudy study → (settings : Option Settings) → (is_some settings ≡ true → AreNames study) → (other : Option Settings) → IfSome other (AreOnSteps study)
    → AreFirst (settings_lines study settings) (settings_lines study other ++ codes "end" ∷ [])
settings_are_first study fits None names other on_steps = tt
settings_are_first study fits (Some settings) names other on_steps = first_of_settings study fits (relay_words_at study settings) (length study.relays) (names refl) other on_steps

module _ (study : StudyData) (fits : FitsStudy study) (bytes body left : List ℕ) (head : Head) (has : HasHead bytes head body) (settings : Option Settings)
    (with : HasSettings study head.cost body settings left)
  where
    -- the lines before the last
    abbrev pub before : List (List ℕ)
    before = head_lines head.ending head.cost head.bound ++ settings_lines study settings

    -- the sheet that was read
    abbrev pub sheet_read : SheetData
    sheet_read = record { ending = head.ending; cost = head.cost; bound = head.bound; settings = settings }

    pub is_read : IsSheet study sheet_read
    is_read = is_with study fits bytes body head has settings with.issued with.on_steps

    names : is_some settings ≡ true → AreNames study
    names some = with.names (sym with.issued ∙ some)

    -- another sheet whose lines begin with these has one line more
    one_more : (other : SheetData) → IsSheet study other → (more : List (List ℕ)) → sheet_lines study other ≡ before ++ more
        → (settings_lines study other.settings ≡ settings_lines study settings) × (codes "end" ∷ [] ≡ more)
    one_more other is more parts =
        let mine = settings_lines study settings in
        let agree = same_head study other is head.ending head.cost head.bound (mine ++ more) has.cost_short has.bound_short
        (parts ∙ append_assoc (head_lines head.ending head.cost head.bound) mine more) in
        let count = settings_count study other.settings settings (is.issued ∙ ap is_some agree.cost_is ∙ sym with.issued) in
        same_parts (settings_lines study other.settings) mine (codes "end" ∷ []) more count agree.tail

    split : bytes ≡ text_of before ++ left
    split = split_more bytes body left (head_lines head.ending head.cost head.bound) (settings_lines study settings) has.parts with.parts

    lines_before : AreLines before
    lines_before = lines_behind study fits bytes body head has (settings_lines study settings) (settings_are_lines study fits settings names with.on_steps)

    first_before : (other : SheetData) → IsSheet study other → AreFirst before (sheet_lines study other)
    first_before other is = first_behind study fits bytes body head has (settings_lines study settings) other is (settings_are_first study fits settings names other.settings is.on_steps)

    whole : sheet_lines study sheet_read ≡ before ++ codes "end" ∷ []
    whole = sym (append_assoc (head_lines head.ending head.cost head.bound) (settings_lines study settings) (codes "end" ∷ []))

    total : length before ≡ length (settings_lines study settings) + 4
    total = omega (arith, length-append (head_lines head.ending head.cost head.bound) (settings_lines study settings))

    -- the last line isn't there
    pub end_stops : (last line : ℕ) (kind : SheetKind) → last ≡ 5 + length (settings_lines study settings) → LacksEnd left last line kind → StopsAt study bytes line kind
    end_stops last line kind last_is lacks =
        let number : length before + 1 ≡ length (settings_lines study settings) + 5 = omega (arith, total) in
        stops_here study bytes sheet_read is_read before (codes "end" ∷ []) whole left split kind
        (lacks.is_due ∙ sym (end_due study sheet_read (length (settings_lines study settings)) refl) ∙ ap (kind_at study sheet_read) (sym number))
        lines_before first_before
        (λ other is same. let m = one_more other is [] (same ∙ sym (append-nil before)) in cc (ap length m.1))
        (λ other is here after parts rest stands.
        let m = one_more other is (here ∷ after) parts in lacks.no_such rest (stands ∙ ap (λ l. l ++ 10 ∷ rest) (sym (ap (λ l. get_or l 0 []) m.1))))
        line (omega (arith, lacks.number, last_is, number))

    -- what another sheet with this text has behind the lines before the last
    peeled : (other : SheetData) → IsSheet study other → bytes ≡ sheet_text study other → Peeled before (sheet_lines study other) left
    peeled other is text = peel before (sheet_lines study other) left lines_before (first_before other is) (sym split ∙ text)

    -- something follows the last line
    pub after_stops : (last line : ℕ) (kind : SheetKind) → last ≡ 5 + length (settings_lines study settings) → GoesOn left last line kind → StopsAt study bytes line kind
    after_stops last line kind last_is goes =
        let number : line ≡ length (settings_lines study settings) + 6 = omega (arith, goes.number, last_is) in
        record {
          no_sheet = λ other is text.
              let rest = peeled other is text in
              let m = one_more other is rest.more rest.parts in
              let same : codes "end\n" ++ goes.left ≡ codes "end\n" ++ [] = sym goes.parts ∙ rest.rest ∙ ap text_of (sym m.1) in
              goes.some (append_cancel_left (codes "end\n") goes.left [] same);
          before = before ++ codes "end" ∷ [];
          left = goes.left;
          parts = split_more bytes left goes.left before (codes "end" ∷ []) split goes.parts;
          number = omega (arith, number, total, length-append before (codes "end" ∷ []));
          begins = record { sheet = sheet_read; is = is_read; more = []; parts = whole ∙ sym (append-nil (before ++ codes "end" ∷ [])) };
          due = goes.is_due ∙ sym (after_due study sheet_read (length (settings_lines study settings)) refl) ∙ ap (kind_at study sheet_read) (sym number);
          stops = λ here rest is_line stands begins.
              let m = one_more begins.sheet begins.is (codes "end" ∷ here ∷ begins.more)
              (begins.parts ∙ append_assoc (before ++ codes "end" ∷ []) (here ∷ []) begins.more ∙ append_assoc before (codes "end" ∷ []) (here ∷ begins.more)) in
              cc (ap length m.1);
        }

    -- the bytes are the text of the sheet
    pub said_whole : left ≡ codes "end\n" → bytes ≡ sheet_text study sheet_read
    said_whole ended =
        split_more bytes left [] before (codes "end" ∷ []) split ended ∙ append-nil (text_of (before ++ codes "end" ∷ []))
        ∙ ap text_of (sym whole)

    -- and of no other
    pub only_sheet : (other : SheetData) → IsSheet study other → bytes ≡ sheet_text study other → sheet_read ≡ other
    only_sheet other is text =
        let rest = peeled other is text in
        let mine = settings_lines study settings in
        let m = one_more other is rest.more rest.parts in
        let agree = same_head study other is head.ending head.cost head.bound (mine ++ rest.more) has.cost_short has.bound_short
        (rest.parts ∙ append_assoc (head_lines head.ending head.cost head.bound) mine rest.more) in
        let same = same_settings study fits settings other.settings (with.issued ∙ sym (is.issued ∙ ap is_some agree.cost_is)) with.on_steps is.on_steps (sym m.0) in
        ap (λ e. record { ending = e; cost = head.cost; bound = head.bound; settings = settings }) (sym agree.ending_is)
        ∙ ap (λ n. record { ending = other.ending; cost = n; bound = head.bound; settings = settings }) (sym agree.cost_is)
        ∙ ap (λ n. record { ending = other.ending; cost = other.cost; bound = n; settings = settings }) (sym agree.bound_is)
        ∙ ap (λ o. record { ending = other.ending; cost = other.cost; bound = other.bound; settings = o }) same
