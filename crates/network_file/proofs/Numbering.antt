-- What a study that is numbered from what a file tells keeps beside the limits: its names differ, its buses are those
-- of its lines, and it has no times and no intervals but those that a file of its format can give.
use Rattle.std.specs.Prelude.{◌-◌, ◌+◌, ◌*◌, not, ◌||◌, ◌==◌, nat_le, slice_get, length, sum_by, IfOk}
use Rattle.std.specs.Cmp.Lexicographic.{bytes_decides, nat_list_eq_equiv}
use Rattle.std.specs.List.{AllPairs, IsDistinct, list_any}
use Rattle.std.specs.Str.{bytes_eq}
use Rattle.std.proofs.Common.{◌≡◌, ℕ, suc, ◌<◌, ◌≤◌, Bool, true, false, List, [], ◌∷◌, ◌++◌, Option, Some, None, Result, Ok, Err, map, get_or, All, refl, sym, ap, ◌∙◌, append_assoc, inl, inr, arith}
use Rattle.std.proofs.lemmas.Bool.{cases_Bool}
use Rattle.std.proofs.lemmas.Bool.Decides.{nat_tests}
use Rattle.std.proofs.lemmas.List.{append-nil, map_push}
use Rattle.std.proofs.lemmas.List.Elements.{All-push}
use Rattle.std.proofs.lemmas.List.Quantifiers.{all_pairs_push, position-Some}
use Rattle.std.proofs.lemmas.Map.Keys.{IsDistinct-push}
use Rattle.coord_model.specs.Form.{is_custom}
use Rattle.coord_model.specs.Pairs.{ends_at}
use Rattle.coord_model.specs.StudyData.{StudyData, study_data}
use Rattle.coord_model.specs.declared.kinds.Key.TheVariants as key
use Rattle.coord_model.specs.declared.kinds.NetKind.TheVariants.{DoubleName, LoopLine, UnknownName, NotAtLine, TwoRelaysAtEnd, OutOfRange}
use Rattle.coord_model.specs.declared.kinds.What.TheVariants.{Buses, PickupSteps}
use Rattle.coord_model.specs.declared.name.Name.{Name}
use Rattle.coord_model.specs.declared.study.Fault.{Fault}
use Rattle.coord_model.specs.declared.study.Line.{Line}
use Rattle.coord_model.specs.declared.study.PairInterval.{PairInterval}
use Rattle.coord_model.specs.declared.study.Relay.{Relay}
use Rattle.coord_model.specs.declared.study.Study.{Study}
use Rattle.network_file.specs.Fault.{demand, fault_at, each_after, Gives}
use Rattle.network_file.specs.Named.{line_told}
use Rattle.network_file.specs.Names.{named, number_in, new_name, buses_of, line_names, relay_names}
use Rattle.network_file.specs.EntryLimits.{IntervalsSuit, ToldKeeps}
use Rattle.network_file.specs.Numbered.{line_in, within_curve, is_taken, is_in_order, relay_in, fault_on}
use Rattle.network_file.specs.Pairs.{has_interval, interval_in}
use Rattle.network_file.specs.Rules.{IsNamed, IsInFormat, HasTimesInOrder, HasNamedCurve, HasNoTimes, AreOfOnePair}
use Rattle.network_file.specs.Study.{next_line, next_relay, next_fault, next_exempt, next_interval, grid_of, study_of}
use Rattle.network_file.specs.Tables.{within}
use Rattle.network_file.specs.Told.{ToldData}
use Rattle.network_file.specs.Values.{some_or}
use Rattle.network_file.specs.declared.entries.FaultEntry.{FaultEntry}
use Rattle.network_file.specs.declared.entries.IntervalEntry.{IntervalEntry}
use Rattle.network_file.specs.declared.entries.LineEntry.{LineEntry}
use Rattle.network_file.specs.declared.entries.RelayEntry.{RelayEntry}
use Rattle.network_file.specs.declared.fault.NetFault.{NetFault}
use Rattle.network_file.specs.declared.fault.Place.{Place}
use Rattle.network_file.proofs.Apart.{first_of_pair}
use Rattle.network_file.proofs.EachAfter.{from_value}

-- the value that was made
value_of : {A : Type 0} {x y : A} → ◌≡◌ {A = Result A NetFault} (Ok x) (Ok y) → x ≡ y
value_of h = cc

-- the value that was there
was_some : {A : Type 0} (fault : NetFault) (o : Option A) (x : A) → some_or fault o ≡ Ok x → o ≡ Some x
was_some fault None x h = absurd (cc)
was_some fault (Some y) x h = cc

-- a name that is added is none of those before it
new_fresh : (place : Place) (names : List Name) (name : Name) (u : Unit {0}) → new_name place names name ≡ Ok u → list_any (bytes_eq name) names ≡ false
unfolding new_name
new_fresh place names name u h =
    elim (cases_Bool (list_any (bytes_eq name) names)) [
      | inl there ↦
          let refused : ◌≡◌ {A = Result (Unit {0}) NetFault} (Err (fault_at place DoubleName key.Name)) (Ok u) = rw there at h in
          absurd (cc)
      | inr none ↦ none
    ]

-- the name of a name's number
named_again : (fault : NetFault) (names : List Name) (name : Name) (number : ℕ)
    → some_or fault (number_in names name) ≡ Ok number → named names number ≡ name
named_again fault names name number found =
    let at = position-Some (bytes_eq name) names number [] (was_some fault (number_in names name) number found) in
    sym ((bytes_decides name (get_or names number [])).0 at.1)

-- a line that is numbered has a new name, and its ends' names are those that were told
module _ (buses : List Name) (place : Place) (names : List Name) (entry : LineEntry) (line : Line) (h : line_in buses place names entry ≡ Ok line) where
  line_again : line_told buses line ≡ entry
  unfolding line_in
  line_again =
      from_value (new_name place names entry.name) _ line h (λ _ _ h.
      from_value (demand (not (bytes_eq entry.from entry.to)) (fault_at place LoopLine key.To)) _ line h (λ _ _ h.
      from_value (some_or (fault_at place UnknownName key.From) (number_in buses entry.from)) _ line h (λ from found_from h.
      from_value (some_or (fault_at place UnknownName key.To) (number_in buses entry.to)) _ line h (λ to found_to h.
      rw (← value_of h, named_again _ buses entry.from from found_from, named_again _ buses entry.to to found_to)))))

  line_fresh : list_any (bytes_eq line.name) names ≡ false
  unfolding line_in
  line_fresh =
      from_value (new_name place names entry.name) _ line h (λ u new _.
      let same = ap (λ (e : LineEntry). e.name) line_again in
      rw same (new_fresh place names entry.name u new))

-- a test that was demanded holds
demanded : (test : Bool) (fault : NetFault) (u : Unit {0}) → demand test fault ≡ Ok u → test ≡ true
demanded true fault u h = refl
demanded false fault u h = absurd (cc)

times_in_order : (least most : ℕ) → ((most == 0) || nat_le least most) ≡ true → 0 < most → least ≤ most
times_in_order least most h some = grind (arith, nat_tests)

-- what is known of a relay that is numbered: it has a new name, its curve and its times are those that were told, and
-- these are in order
record RelayIs (names : List Name) (entry : RelayEntry) (relay : Relay) : Type 0 where
  pub fresh : list_any (bytes_eq relay.name) names ≡ false
  pub least_ms : relay.least_ms ≡ entry.least_ms
  pub most_ms : relay.most_ms ≡ entry.most_ms
  pub curve : relay.curve ≡ entry.curve
  pub in_order : HasTimesInOrder relay

relay_is : (buses line_names : List Name) (lines : List Line) (place : Place) (names : List Name) (before : List Relay) (entry : RelayEntry) (relay : Relay)
    → relay_in buses line_names lines place names before entry ≡ Ok relay → RelayIs names entry relay
unfolding relay_in
relay_is buses line_names lines place names before entry relay h =
    from_value (new_name place names entry.name) _ relay h (λ u new h.
    from_value (some_or (fault_at place UnknownName key.Line) (number_in line_names entry.line)) _ relay h (λ line _ h.
    from_value (some_or (fault_at place NotAtLine key.Bus) (number_in buses entry.bus)) _ relay h (λ bus _ h.
    from_value (demand (ends_at (slice_get lines line) bus) (fault_at place NotAtLine key.Bus)) _ relay h (λ _ _ h.
    from_value (demand (not (is_taken before line bus)) (fault_at place TwoRelaysAtEnd key.Bus)) _ relay h (λ _ _ h.
    from_value (within_curve place entry.curve) _ relay h (λ _ _ h.
    from_value (demand (nat_le (entry.plug_first + (entry.plug_count - 1) * entry.plug_step) 10000) (fault_at place OutOfRange key.PlugCount)) _ relay h (λ _ _ h.
    from_value (demand (nat_le (entry.dial_first + (entry.dial_count - 1) * entry.dial_step) 15000) (fault_at place OutOfRange key.DialCount)) _ relay h (λ _ _ h.
    from_value (demand (is_in_order entry.least_ms entry.most_ms) (fault_at place OutOfRange key.MostMs)) _ relay h (λ u' ordered h.
    rw (← value_of h) (record {
      fresh = new_fresh place names entry.name u new;
      least_ms = refl;
      most_ms = refl;
      curve = refl;
      in_order = times_in_order entry.least_ms entry.most_ms (demanded _ _ u' ordered);
    }))))))))))

-- an interval that is numbered is the first of its pair
interval_first : (relay_names : List Name) (place : Place) (before : List PairInterval) (entry : IntervalEntry) (own : PairInterval)
    → interval_in relay_names place before entry ≡ Ok own → All (λ other. ¬ (AreOfOnePair other own)) before
unfolding interval_in
interval_first relay_names place before entry own h =
    from_value (some_or (fault_at place UnknownName key.Backup) (number_in relay_names entry.backup)) _ own h (λ backup _ h.
    from_value (some_or (fault_at place UnknownName key.Primary) (number_in relay_names entry.primary)) _ own h (λ primary _ h.
    from_value (demand (not (has_interval before backup primary)) (fault_at place DoubleName key.Primary)) _ own h (λ u free h.
    let none : has_interval before backup primary ≡ false = not_true (has_interval before backup primary) (demanded _ _ u free) in
    rw (← value_of h) (first_of_pair before (record { backup = backup; primary = primary; cti_ms = entry.cti_ms }) none))))
  where
    not_true : (b : Bool) → not b ≡ true → b ≡ false
    not_true true h = absurd (cc)
    not_true false h = refl

-- a fault that is numbered has a new name
fault_fresh : (line_names : List Name) (place : Place) (names : List Name) (entry : FaultEntry) (fault : Fault)
    → fault_on line_names place names entry ≡ Ok fault → list_any (bytes_eq fault.name) names ≡ false
unfolding fault_on
fault_fresh line_names place names entry fault h =
    from_value (new_name place names entry.name) _ fault h (λ u new h.
    from_value (some_or (fault_at place UnknownName key.Line) (number_in line_names entry.line)) _ fault h (λ line _ h.
    rw (← value_of h) (new_fresh place names entry.name u new)))

-- where each has a name that none before it has, all names differ
each_differs : {A B : Type 0} (read : List B → A → Result B NetFault) (name : B → Name)
    → ((before : List B) (x : A) (y : B) → read before x ≡ Ok y → list_any (bytes_eq (name y)) (map name before) ≡ false)
    → (before : List B) (xs : List A) (ys : List B) → IsDistinct bytes_eq (map name before) → each_after read before xs ≡ Ok ys → IsDistinct bytes_eq (map name ys)
unfolding each_after
each_differs read name fresh before [] ys differ h = rw (← value_of h) differ
each_differs read name fresh before (x ∷ xs) ys differ h =
    from_value (read before x) (λ y. each_after read (before ++ y ∷ []) xs) ys h (λ y one rest.
    each_differs read name fresh (before ++ y ∷ []) xs ys
    (rw map_push (IsDistinct-push nat_list_eq_equiv (map name before) (name y) differ (fresh before x y one))) rest)

-- where each is told again by what was made of it, all are
each_told : {A B : Type 0} (read : List B → A → Result B NetFault) (tell : B → A)
    → ((before : List B) (x : A) (y : B) → read before x ≡ Ok y → tell y ≡ x)
    → (before : List B) (xs : List A) (ys : List B) → each_after read before xs ≡ Ok ys → map tell ys ≡ map tell before ++ xs
unfolding each_after
each_told read tell again before [] ys h = rw (← value_of h) (sym (append-nil (map tell before)))
each_told read tell again before (x ∷ xs) ys h =
    from_value (read before x) (λ y. each_after read (before ++ y ∷ []) xs) ys h (λ y one rest.
    each_told read tell again (before ++ y ∷ []) xs ys rest ∙ rw (map_push, append_assoc, again before x y one))

-- where what is made of each stands in a relation with those before it, all do
each_apart : {A B : Type 0} (read : List B → A → Result B NetFault) (R : B → B → Type 0)
    → ((before : List B) (x : A) (y : B) → read before x ≡ Ok y → All (λ b. R b y) before)
    → (before : List B) (xs : List A) (ys : List B) → AllPairs R before → each_after read before xs ≡ Ok ys → AllPairs R ys
unfolding each_after
each_apart read R fresh before [] ys apart h = rw (← value_of h) apart
each_apart read R fresh before (x ∷ xs) ys apart h =
    from_value (read before x) (λ y. each_after read (before ++ y ∷ []) xs) ys h (λ y one rest.
    each_apart read R fresh (before ++ y ∷ []) xs ys (all_pairs_push R before y apart (fresh before x y one)) rest)

-- where what is made of an element that meets P meets Q, all do
each_meets : {A B : Type 0} (read : List B → A → Result B NetFault) (P : A → Type 0) (Q : B → Type 0)
    → ((before : List B) (x : A) (y : B) → P x → read before x ≡ Ok y → Q y)
    → (before : List B) (xs : List A) (ys : List B) → All Q before → All P xs → each_after read before xs ≡ Ok ys → All Q ys
unfolding each_after
each_meets read P Q makes before [] ys met given h = rw (← value_of h) met
each_meets read P Q makes before (x ∷ xs) ys met given h =
    from_value (read before x) (λ y. each_after read (before ++ y ∷ []) xs) ys h (λ y one rest.
    each_meets read P Q makes (before ++ y ∷ []) xs ys (All-push Q before y met (makes before x y (given 0 x (omega arith)) one))
    (λ k d within. given (suc k) d (omega (arith, within))) rest)

-- how the named parts of a study come from those of what is told
record Parts (told : ToldData) (study : StudyData) : Type 0 where
  pub format : study.format ≡ told.format
  pub buses : study.buses ≡ buses_of told.lines
  pub lines : each_after (next_line study.buses) [] told.lines ≡ Ok study.lines
  pub relays : each_after (next_relay study.buses study.lines) [] told.relays ≡ Ok study.relays
  pub faults : each_after (next_fault study.lines) [] told.faults ≡ Ok study.faults
  pub intervals : each_after (next_interval (relay_names study.relays)) [] told.intervals ≡ Ok study.intervals

grid_lines : (entries : List LineEntry) (lines : List Line) → grid_of entries ≡ Ok lines → each_after (next_line (buses_of entries)) [] entries ≡ Ok lines
unfolding grid_of
grid_lines entries lines h =
    from_value (each_after (next_line (buses_of entries)) [] entries) _ lines h (λ made made_lines h.
    from_value (within Buses 64 (length (buses_of entries))) _ lines h (λ _ _ h.
    rw (← value_of h) made_lines))

parts : (told : ToldData) (study : StudyData) → study_of told ≡ Ok study → Parts told study
unfolding study_of
parts told study h =
    let buses = buses_of told.lines in
    from_value (grid_of told.lines) _ study h (λ lines made_lines h.
    from_value (each_after (next_relay buses lines) [] told.relays) _ study h (λ relays made_relays h.
    from_value (within PickupSteps 3072 (sum_by (λ (relay : Relay). relay.plug_count) relays)) _ study h (λ _ _ h.
    from_value (each_after (next_fault lines) [] told.faults) _ study h (λ faults made_faults h.
    from_value (each_after (next_exempt (relay_names relays)) [] told.exempt) _ study h (λ exempt _ h.
    from_value (each_after (next_interval (relay_names relays)) [] told.intervals) _ study h (λ intervals made_intervals h.
    rw (← value_of h) (record {
      format = refl;
      buses = refl;
      lines = grid_lines told.lines lines made_lines;
      relays = made_relays;
      faults = made_faults;
      intervals = made_intervals;
    })))))))

numbered_named : (told : ToldData) (study : StudyData) → study_of told ≡ Ok study → IsNamed study
unfolding IsDistinct
numbered_named told study numbered =
    let p = parts told study numbered in
    record {
      lines = each_differs (next_line study.buses) (λ (line : Line). line.name)
          (λ before entry line. line_fresh study.buses _ _ entry line) [] told.lines study.lines tt p.lines;
      relays = each_differs (next_relay study.buses study.lines) (λ (relay : Relay). relay.name)
          (λ before entry relay h. (relay_is study.buses (line_names study.lines) study.lines _ _ before entry relay h).fresh) [] told.relays study.relays tt p.relays;
      faults = each_differs (next_fault study.lines) (λ (fault : Fault). fault.name)
          (λ before entry fault. fault_fresh (line_names study.lines) _ _ entry fault) [] told.faults study.faults tt p.faults;
      buses = rw (each_told (next_line study.buses) (line_told study.buses)
          (λ before entry line. line_again study.buses _ _ entry line) [] told.lines study.lines p.lines) (sym p.buses);
    }

-- the entry has neither a least nor a greatest time
abbrev HasNone : RelayEntry → Type 0
HasNone entry = (entry.least_ms ≡ 0) × (entry.most_ms ≡ 0)

none_made : (own : List PairInterval) (read : List PairInterval → IntervalEntry → Result PairInterval NetFault)
    → each_after read [] [] ≡ Ok own → own ≡ []
unfolding each_after
none_made own read h = sym (value_of h)

numbered_in_format : (told : ToldData) (study : StudyData) → ToldKeeps told → IntervalsSuit told → study_of told ≡ Ok study → IsInFormat study
numbered_in_format told study keeps suits numbered =
    let p = parts told study numbered in
    let read = next_relay study.buses study.lines in
    let is = λ (before : List Relay) (entry : RelayEntry) (relay : Relay) (h : read before entry ≡ Ok relay).
    relay_is study.buses (line_names study.lines) study.lines _ _ before entry relay h in
    record {
      in_order = each_meets read (λ _. Unit {0}) HasTimesInOrder
          (λ before entry relay _ h. (is before entry relay h).in_order) [] told.relays study.relays (λ k d within. absurd (omega arith)) (λ k d within. tt) p.relays;
      once = each_apart (next_interval (relay_names study.relays)) (λ one other. ¬ (AreOfOnePair one other))
          (λ before entry own. interval_first (relay_names study.relays) _ before entry own) [] told.intervals study.intervals
          (λ i j d lt within. absurd (omega arith)) p.intervals;
      no_times = λ early. each_meets read HasNone HasNoTimes
          (λ before entry relay none h. record {
            least_ms = (is before entry relay h).least_ms ∙ none.0;
            most_ms = (is before entry relay h).most_ms ∙ none.1;
          }) [] told.relays study.relays (λ k d within. absurd (omega arith))
          (λ k d within. (keeps.relays k d within).no_times (rw (← p.format) early)) p.relays;
      named = λ early. each_meets read (λ (entry : RelayEntry). is_custom entry.curve ≡ false) HasNamedCurve
          (λ before entry relay named h. ap is_custom (is before entry relay h).curve ∙ named) [] told.relays study.relays (λ k d within. absurd (omega arith))
          (λ k d within. (keeps.relays k d within).named (rw (← p.format) early)) p.relays;
      no_intervals = λ early. none_made study.intervals (next_interval (relay_names study.relays))
          (rw (suits (rw (← p.format) early)) at p.intervals);
    }

-- the same of a study that a function returns
pub given_named : (told : ToldData) (result : Result Study NetFault) → Gives study_data result (study_of told) → IfOk result (λ study. IsNamed (study_data study))
given_named told (Ok study) numbered = numbered_named told (study_data study) numbered
given_named told (Err fault) numbered = tt

pub given_in_format : (told : ToldData) (result : Result Study NetFault) → ToldKeeps told → IntervalsSuit told → Gives study_data result (study_of told)
    → IfOk result (λ study. IsInFormat (study_data study))
given_in_format told (Ok study) keeps suits numbered = numbered_in_format told (study_data study) keeps suits numbered
given_in_format told (Err fault) keeps suits numbered = tt
