-- What the steps of a row's two relays say of the choices of a box.
use Rattle.std.specs.Prelude.{slice_index}
use Rattle.std.specs.List.{Contains}
use Rattle.std.proofs.Common.{◌≡◌, ℕ, ◌+◌, ◌-◌, ◌*◌, ◌<◌, ◌≤◌, List, length, map, get_or, set, arith, refl, sym, ap, ◌∙◌, subst, inl, inr}
use Rattle.std.proofs.lemmas.Bool.{cases_eq}
use Rattle.std.proofs.lemmas.List.{length-map, length-set, get_or-set_same, get_or-set_other, get_or-map}
use Rattle.std.proofs.lemmas.Nat.{mul-le}
use Rattle.coord_model.specs.Choice.{Settings}
use Rattle.coord_model.specs.Dial.{dial_at_step}
use Rattle.coord_model.specs.StudyData.{StudyData}
use Rattle.coord_model.specs.declared.study.Row.{Row}
use Rattle.coord_model.specs.declared.study.RowKind.{RowKind}
use Rattle.coord_model.specs.declared.study.RowKind.TheVariants.{Interval, Least, Most}
use Rattle.margin_rows.specs.Box.{Box, IsIn, LiesIn, FitsBox, IsDialStep, HasNoEmptySpan, IsFilled, no_steps}
use Rattle.margin_rows.specs.Case.{Case, rows_in, FitsCase}
use Rattle.margin_rows.specs.FirstBox.{IsFirstStep}
use Rattle.margin_rows.specs.Demands.{asked_ps, fast_part, granted_ps, slow_part}
use Rattle.margin_rows.specs.Margin.{MeetsLoosely}
use Rattle.margin_rows.specs.Times.{time_at}
use Rattle.margin_rows.specs.declared.span.Steps.{Steps}
use Rattle.margin_rows.proofs.Dialled.{dial_rises}
use Rattle.box_range.specs.Drops.{CanMeet}
use Rattle.box_range.specs.Kinds.{spans_of, step_of, span_at}
use Rattle.box_range.specs.Meeting.{Asks, IsMeetable, HasRelays, AreFirst, MeetsWith, relay_of, best_steps, with_step}
use Rattle.box_range.specs.declared.kind.Kind.{Kind}
use Rattle.box_range.specs.declared.kind.Kind.TheVariants.{Pickup, Dial}
use Rattle.box_range.specs.declared.row.Part.{Part}
use Rattle.box_range.specs.declared.row.Part.TheVariants.{Backup, Primary}
use Rattle.box_range.specs.declared.row.RowSteps.{RowSteps}
use Rattle.box_range.proofs.Laws.{backup_rises, primary_rises}
use Rattle.margin_rows.proofs.RowKinds.{kind_cases}
use Rattle.box_range.proofs.Places.{relay_counts}
use Rattle.box_range.proofs.Spans.{has_steps, lies_at, lies}
use Rattle.margin_rows.proofs.Within.{some_each}

-- the steps of the row's relays lie in the spans of the box
pub record AreInBox (box : Box) (row : Row) (steps : RowSteps) : Type 0 where
  pub backup_pickup : IsIn (span_at Pickup box row.backup) steps.backup_pickup
  pub backup_dial : IsIn (span_at Dial box row.backup) steps.backup_dial
  pub primary_pickup : IsIn (span_at Pickup box row.primary) steps.primary_pickup
  pub primary_dial : IsIn (span_at Dial box row.primary) steps.primary_dial

-- the second steps are at least as good for the row: a slower backup, a quicker primary
pub record AreBetter (worse better : RowSteps) : Type 0 where
  pub backup_pickup : worse.backup_pickup ≤ better.backup_pickup
  pub backup_dial : worse.backup_dial ≤ better.backup_dial
  pub primary_pickup : better.primary_pickup ≤ worse.primary_pickup
  pub primary_dial : better.primary_dial ≤ worse.primary_dial

-- the steps that settings have at the row
abbrev pub steps_at : Settings → Row → RowSteps
steps_at settings row = record {
  backup_pickup = slice_index settings.pickup row.backup;
  backup_dial = slice_index settings.dial row.backup;
  primary_pickup = slice_index settings.pickup row.primary;
  primary_dial = slice_index settings.dial row.primary;
}

in_box_first : (case : Case) (box : Box) (row : Row) (steps : RowSteps) → FitsBox case box → HasRelays box row → AreInBox box row steps → AreFirst case row steps
in_box_first case box row steps fits relays is = record {
  backup_pickup = some_each box.pickup (λ i span. IsIn span steps.backup_pickup → IsFirstStep case i steps.backup_pickup) no_steps (λ i. fits.pickup i steps.backup_pickup) row.backup (relays.backup Pickup) is.backup_pickup;
  backup_dial = some_each box.dial (λ i span. IsIn span steps.backup_dial → IsDialStep case i steps.backup_dial) no_steps (λ i. fits.dial i steps.backup_dial) row.backup (relays.backup Dial) is.backup_dial;
  primary_pickup = some_each box.pickup (λ i span. IsIn span steps.primary_pickup → IsFirstStep case i steps.primary_pickup) no_steps (λ i. fits.pickup i steps.primary_pickup) row.primary (relays.primary Pickup) is.primary_pickup;
  primary_dial = some_each box.dial (λ i span. IsIn span steps.primary_dial → IsDialStep case i steps.primary_dial) no_steps (λ i. fits.dial i steps.primary_dial) row.primary (relays.primary Dial) is.primary_dial;
}

-- a row that two times meet is met by a slower backup and a faster primary
pub parts_meet : (kind : RowKind) (backup slower primary faster asked granted : ℕ) → backup ≤ slower → faster ≤ primary
    → fast_part kind primary + asked ≤ slow_part kind backup + granted → fast_part kind faster + asked ≤ slow_part kind slower + granted
parts_meet Interval backup slower primary faster asked granted b p meets = omega (arith, b, p, meets)
parts_meet Least backup slower primary faster asked granted b p meets = omega (arith, b, meets)
parts_meet Most backup slower primary faster asked granted b p meets = omega (arith, p, meets)

better_meets : (case : Case) (row : Row) (worse better : RowSteps) → FitsCase case → Contains (rows_in case) row → AreFirst case row worse → AreFirst case row better
    → AreBetter worse better → MeetsWith case row worse → MeetsWith case row better
better_meets case row worse better fits there first_worse first_better is meets =
    let early = primary_rises case row better.primary_pickup worse.primary_pickup fits there is.primary_pickup first_better.primary_pickup first_worse.primary_pickup in
    let late = backup_rises case row worse.backup_pickup better.backup_pickup fits there is.backup_pickup first_worse.backup_pickup first_better.backup_pickup in
    let low = dial_rises case.study row.primary better.primary_dial worse.primary_dial is.primary_dial in
    let high = dial_rises case.study row.backup worse.backup_dial better.backup_dial is.backup_dial in
    parts_meet row.kind (dial_at_step case.study row.backup worse.backup_dial * (time_at case row.fault row.backup worse.backup_pickup).upper)
    (dial_at_step case.study row.backup better.backup_dial * (time_at case row.fault row.backup better.backup_pickup).upper)
    (dial_at_step case.study row.primary worse.primary_dial * (time_at case row.fault row.primary worse.primary_pickup).lower)
    (dial_at_step case.study row.primary better.primary_dial * (time_at case row.fault row.primary better.primary_pickup).lower)
    (asked_ps case.study row) (granted_ps case.study row) (mul-le _ _ _ _ high late) (mul-le _ _ _ _ low early) meets

-- the steps of a list of spans that are the lowest but at two places
chosen : List Steps → ℕ → ℕ → ℕ → ℕ → List ℕ
chosen spans b high p low = set (set (map (λ (span : Steps). span.low) spans) p low) b high

chosen_count : (spans : List Steps) (b high p low : ℕ) → length (chosen spans b high p low) ≡ length spans
unfolding chosen
chosen_count spans b high p low = simp (length-set, length-map)

chosen_backup : (spans : List Steps) (b high p low : ℕ) → b < length spans → slice_index (chosen spans b high p low) b ≡ high
unfolding chosen
chosen_backup spans b high p low below =
    let inside : b < length (set (map (λ (span : Steps). span.low) spans) p low) = simp (length-set, length-map) below in
    get_or-set_same (set (map (λ (span : Steps). span.low) spans) p low) b high 0 inside

chosen_primary : (spans : List Steps) (b high p low : ℕ) → (b ≡ p → high ≡ low) → p < length spans → slice_index (chosen spans b high p low) p ≡ low
unfolding chosen
chosen_primary spans b high p low agree below =
    let inside : p < length (map (λ (span : Steps). span.low) spans) = simp length-map below in
    elim (cases_eq b p) [
      | inl same ↦
          let here : slice_index (chosen spans b high p low) p ≡ high = rw (← same) (chosen_backup spans b high b low (rw (← same) at below)) in
          here ∙ agree same
      | inr apart ↦ get_or-set_other (set (map (λ (span : Steps). span.low) spans) p low) b p high 0 (λ same. apart (sym same))
          ∙ get_or-set_same (map (λ (span : Steps). span.low) spans) p low 0 inside
    ]

chosen_in : (spans : List Steps) (b high p low i : ℕ) → (b ≡ p → high ≡ low) → i < length spans → (get_or spans i no_steps).low < (get_or spans i no_steps).past
    → IsIn (get_or spans b no_steps) high → IsIn (get_or spans p no_steps) low → IsIn (get_or spans i no_steps) (slice_index (chosen spans b high p low) i)
unfolding chosen
chosen_in spans b high p low i agree below some is_b is_p =
    elim (cases_eq i b) [
      | inl at_b ↦ rw at_b (rw (chosen_backup spans b high p low (rw at_b at below)) is_b)
      | inr off_b ↦ elim (cases_eq i p) [
        | inl at_p ↦ rw at_p (rw (chosen_primary spans b high p low agree (rw at_p at below)) is_p)
        | inr off_p ↦
            let same = get_or-set_other (set (map (λ (span : Steps). span.low) spans) p low) b i high 0 off_b
            ∙ get_or-set_other (map (λ (span : Steps). span.low) spans) p i low 0 off_p ∙ get_or-map (λ (span : Steps). span.low) spans i no_steps 0 below in
            rw same (record { from = omega arith; before = some })
      ]
    ]

-- where the row's two relays are one, the steps have one step for it
record Agree (row : Row) (steps : RowSteps) : Type 0 where
  pickup : row.backup ≡ row.primary → steps.backup_pickup ≡ steps.primary_pickup
  dial : row.backup ≡ row.primary → steps.backup_dial ≡ steps.primary_dial

-- settings with these steps at the row and the lowest of the box elsewhere
choice_with : Box → Row → RowSteps → Settings
choice_with box row steps = record {
  pickup = chosen box.pickup row.backup steps.backup_pickup row.primary steps.primary_pickup;
  dial = chosen box.dial row.backup steps.backup_dial row.primary steps.primary_dial;
}

choice_lies : (box : Box) (row : Row) (steps : RowSteps) → HasNoEmptySpan box → Agree row steps → AreInBox box row steps → LiesIn box (choice_with box row steps)
unfolding choice_with
choice_lies box row steps some agree is =
    lies box (choice_with box row steps) (chosen_count box.pickup row.backup steps.backup_pickup row.primary steps.primary_pickup)
    (chosen_count box.dial row.backup steps.backup_dial row.primary steps.primary_dial) each
  where
    each : (kind : Kind) (i : ℕ) → i < length (spans_of kind box) → IsIn (span_at kind box i) (step_of kind (choice_with box row steps) i)
    each Pickup i below = chosen_in box.pickup row.backup steps.backup_pickup row.primary steps.primary_pickup i agree.pickup below (has_steps box Pickup i some below) is.backup_pickup is.primary_pickup
    each Dial i below = chosen_in box.dial row.backup steps.backup_dial row.primary steps.primary_dial i agree.dial below (has_steps box Dial i some below) is.backup_dial is.primary_dial

choice_steps : (box : Box) (row : Row) (steps : RowSteps) → HasRelays box row → Agree row steps → steps_at (choice_with box row steps) row ≡ steps
unfolding choice_with
choice_steps box row steps relays agree =
    let a = chosen_backup box.pickup row.backup steps.backup_pickup row.primary steps.primary_pickup (relays.backup Pickup) in
    let b = chosen_backup box.dial row.backup steps.backup_dial row.primary steps.primary_dial (relays.backup Dial) in
    let c = chosen_primary box.pickup row.backup steps.backup_pickup row.primary steps.primary_pickup agree.pickup (relays.primary Pickup) in
    let d = chosen_primary box.dial row.backup steps.backup_dial row.primary steps.primary_dial agree.dial (relays.primary Dial) in
    rw (a, b, c, d)

-- the step of steps for a setting of one of the relays
abbrev pub step_for : Part → Kind → RowSteps → ℕ
step_for Backup Pickup steps = steps.backup_pickup
step_for Backup Dial steps = steps.backup_dial
step_for Primary Pickup steps = steps.primary_pickup
step_for Primary Dial steps = steps.primary_dial

step_for_is : (part : Part) (kind : Kind) (settings : Settings) (row : Row) → step_of kind settings (relay_of part row) ≡ step_for part kind (steps_at settings row)
step_for_is Backup Pickup settings row = refl
step_for_is Backup Dial settings row = refl
step_for_is Primary Pickup settings row = refl
step_for_is Primary Dial settings row = refl

step_for_with : (part : Part) (kind : Kind) (steps : RowSteps) (step : ℕ) → step_for part kind (with_step part kind steps step) ≡ step
step_for_with Backup Pickup steps step = refl
step_for_with Backup Dial steps step = refl
step_for_with Primary Pickup steps step = refl
step_for_with Primary Dial steps step = refl

-- the steps that count at a row of this kind, for both of its relays
agreed : RowKind → RowSteps → RowSteps
agreed Interval steps = steps
agreed Least steps = record { backup_pickup = steps.backup_pickup; backup_dial = steps.backup_dial; primary_pickup = steps.backup_pickup; primary_dial = steps.backup_dial }
agreed Most steps = record { backup_pickup = steps.primary_pickup; backup_dial = steps.primary_dial; primary_pickup = steps.primary_pickup; primary_dial = steps.primary_dial }

agreed_meets : (study : StudyData) (kind : RowKind) (asked granted : ℕ) (backup primary : RowSteps → ℕ) (steps : RowSteps)
    → ((s : RowSteps) (t : RowSteps) → s.backup_pickup ≡ t.backup_pickup → s.backup_dial ≡ t.backup_dial → backup s ≡ backup t)
    → ((s : RowSteps) (t : RowSteps) → s.primary_pickup ≡ t.primary_pickup → s.primary_dial ≡ t.primary_dial → primary s ≡ primary t)
    → fast_part kind (primary steps) + asked ≤ slow_part kind (backup steps) + granted
    → fast_part kind (primary (agreed kind steps)) + asked ≤ slow_part kind (backup (agreed kind steps)) + granted
unfolding agreed
agreed_meets study Interval asked granted backup primary steps b p meets = meets
agreed_meets study Least asked granted backup primary steps b p meets = rw (b (agreed Least steps) steps refl refl) meets
agreed_meets study Most asked granted backup primary steps b p meets = rw (p (agreed Most steps) steps refl refl) meets

-- a step that counts is kept
agreed_has : (row_kind : RowKind) (part : Part) (kind : Kind) (steps : RowSteps) → Asks row_kind part → step_for part kind (agreed row_kind steps) ≡ step_for part kind steps
unfolding agreed
agreed_has Interval part kind steps asks = refl
agreed_has Least Backup Pickup steps asks = refl
agreed_has Least Backup Dial steps asks = refl
agreed_has Least Primary kind steps asks = absurd asks
agreed_has Most Backup kind steps asks = absurd asks
agreed_has Most Primary Pickup steps asks = refl
agreed_has Most Primary Dial steps asks = refl

-- they lie in the box, and agree
agreed_in : (case : Case) (box : Box) (row : Row) (steps : RowSteps) → Contains (rows_in case) row → AreInBox box row steps → AreInBox box row (agreed row.kind steps) × Agree row (agreed row.kind steps)
unfolding agreed
agreed_in case box row steps there is =
    let P : RowKind → Type 0 = λ k. AreInBox box row (agreed k steps) × Agree row (agreed k steps) in
    elim (kind_cases case row there) as (λ _. P row.kind) [
      | inl interval ↦ subst P (sym interval.0) (is, record { pickup = λ same. absurd (interval.1 same); dial = λ same. absurd (interval.1 same) })
      | inr limit ↦ elim limit as (λ _. P row.kind) [
        | inl least ↦ subst P (sym least.0) (
          record {
            backup_pickup = is.backup_pickup;
            backup_dial = is.backup_dial;
            primary_pickup = subst (λ (r : ℕ). IsIn (span_at Pickup box r) steps.backup_pickup) least.1 is.backup_pickup;
            primary_dial = subst (λ (r : ℕ). IsIn (span_at Dial box r) steps.backup_dial) least.1 is.backup_dial;
          },
          record { pickup = λ same. refl; dial = λ same. refl },
        )
        | inr most ↦ subst P (sym most.0) (
          record {
            backup_pickup = subst (λ (r : ℕ). IsIn (span_at Pickup box r) steps.primary_pickup) (sym most.1) is.primary_pickup;
            backup_dial = subst (λ (r : ℕ). IsIn (span_at Dial box r) steps.primary_dial) (sym most.1) is.primary_dial;
            primary_pickup = is.primary_pickup;
            primary_dial = is.primary_dial;
          },
          record { pickup = λ same. refl; dial = λ same. refl },
        )
      ]
    ]

-- steps of the box that meet the row give a choice of the box that does
meets_settings : (case : Case) (box : Box) (row : Row) (steps : RowSteps) → HasNoEmptySpan box → HasRelays box row → Contains (rows_in case) row → AreInBox box row steps → MeetsWith case row steps
    → (settings : Settings) × LiesIn box settings × (steps_at settings row ≡ agreed row.kind steps) × MeetsLoosely case settings row
meets_settings case box row steps some relays there is meets =
    let are = agreed_in case box row steps there is in
    let same = choice_steps box row (agreed row.kind steps) relays are.1 in
    let backup : RowSteps → ℕ = λ s. dial_at_step case.study row.backup s.backup_dial * (time_at case row.fault row.backup s.backup_pickup).upper in
    let primary : RowSteps → ℕ = λ s. dial_at_step case.study row.primary s.primary_dial * (time_at case row.fault row.primary s.primary_pickup).lower in
    let met : MeetsWith case row (agreed row.kind steps) = agreed_meets case.study row.kind (asked_ps case.study row) (granted_ps case.study row) backup primary steps
    (λ s t p d. rw (p, d) refl) (λ s t p d. rw (p, d) refl) meets in
    (choice_with box row (agreed row.kind steps), choice_lies box row (agreed row.kind steps) some are.1 are.0, same, subst (λ (s : RowSteps). MeetsWith case row s) (sym same) met)

best_in_box : (box : Box) (row : Row) → HasNoEmptySpan box → HasRelays box row → AreInBox box row (best_steps box row)
best_in_box box row some relays = record {
  backup_pickup = highest (span_at Pickup box row.backup) (has_steps box Pickup row.backup some (relays.backup Pickup));
  backup_dial = highest (span_at Dial box row.backup) (has_steps box Dial row.backup some (relays.backup Dial));
  primary_pickup = record { from = omega arith; before = has_steps box Pickup row.primary some (relays.primary Pickup) };
  primary_dial = record { from = omega arith; before = has_steps box Dial row.primary some (relays.primary Dial) };
}
  where
    highest : (span : Steps) → span.low < span.past → IsIn span (span.past - 1)
    highest span some = record { from = omega (arith, some); before = omega (arith, some) }

with_in_box : (part : Part) (kind : Kind) (box : Box) (row : Row) (steps : RowSteps) (step : ℕ) → AreInBox box row steps → IsIn (span_at kind box (relay_of part row)) step
    → AreInBox box row (with_step part kind steps step)
with_in_box Backup Pickup box row steps step is is_in = record { backup_pickup = is_in; backup_dial = is.backup_dial; primary_pickup = is.primary_pickup; primary_dial = is.primary_dial }
with_in_box Backup Dial box row steps step is is_in = record { backup_pickup = is.backup_pickup; backup_dial = is_in; primary_pickup = is.primary_pickup; primary_dial = is.primary_dial }
with_in_box Primary Pickup box row steps step is is_in = record { backup_pickup = is.backup_pickup; backup_dial = is.backup_dial; primary_pickup = is_in; primary_dial = is.primary_dial }
with_in_box Primary Dial box row steps step is is_in = record { backup_pickup = is.backup_pickup; backup_dial = is.backup_dial; primary_pickup = is.primary_pickup; primary_dial = is_in }

-- the steps that settings of the box have at the row, which lie in the box and are no better than the best
settings_in_box : (box : Box) (row : Row) (settings : Settings) → HasRelays box row → LiesIn box settings → AreInBox box row (steps_at settings row)
settings_in_box box row settings relays h = record {
  backup_pickup = lies_at box settings Pickup row.backup h (relays.backup Pickup);
  backup_dial = lies_at box settings Dial row.backup h (relays.backup Dial);
  primary_pickup = lies_at box settings Pickup row.primary h (relays.primary Pickup);
  primary_dial = lies_at box settings Dial row.primary h (relays.primary Dial);
}

best_is_better : (box : Box) (row : Row) (steps : RowSteps) → AreInBox box row steps → AreBetter steps (best_steps box row)
best_is_better box row steps is = record {
  backup_pickup = omega (arith, is.backup_pickup.before);
  backup_dial = omega (arith, is.backup_dial.before);
  primary_pickup = is.primary_pickup.from;
  primary_dial = is.primary_dial.from;
}

-- with one step kept, the rest of the best steps is still better
best_with_better : (part : Part) (kind : Kind) (box : Box) (row : Row) (steps : RowSteps) → AreInBox box row steps → AreBetter steps (with_step part kind (best_steps box row) (step_for part kind steps))
best_with_better Backup Pickup box row steps is = let b = best_is_better box row steps is in record { backup_pickup = omega arith; backup_dial = b.backup_dial; primary_pickup = b.primary_pickup; primary_dial = b.primary_dial }
best_with_better Backup Dial box row steps is = let b = best_is_better box row steps is in record { backup_pickup = b.backup_pickup; backup_dial = omega arith; primary_pickup = b.primary_pickup; primary_dial = b.primary_dial }
best_with_better Primary Pickup box row steps is = let b = best_is_better box row steps is in record { backup_pickup = b.backup_pickup; backup_dial = b.backup_dial; primary_pickup = omega arith; primary_dial = b.primary_dial }
best_with_better Primary Dial box row steps is = let b = best_is_better box row steps is in record { backup_pickup = b.backup_pickup; backup_dial = b.backup_dial; primary_pickup = b.primary_pickup; primary_dial = omega arith }

-- a higher step of the backup is better, and so is a lower one of the primary
higher_better : (kind : Kind) (steps : RowSteps) (s t : ℕ) → s ≤ t → AreBetter (with_step Backup kind steps s) (with_step Backup kind steps t)
higher_better Pickup steps s t le = record { backup_pickup = le; backup_dial = omega arith; primary_pickup = omega arith; primary_dial = omega arith }
higher_better Dial steps s t le = record { backup_pickup = omega arith; backup_dial = le; primary_pickup = omega arith; primary_dial = omega arith }

lower_better : (kind : Kind) (steps : RowSteps) (s t : ℕ) → t ≤ s → AreBetter (with_step Primary kind steps s) (with_step Primary kind steps t)
lower_better Pickup steps s t le = record { backup_pickup = omega arith; backup_dial = omega arith; primary_pickup = le; primary_dial = omega arith }
lower_better Dial steps s t le = record { backup_pickup = omega arith; backup_dial = omega arith; primary_pickup = omega arith; primary_dial = le }

module _ (case : Case) (box : Box) (row : Row) (filled : IsFilled case box) (there : Contains (rows_in case) row) where
  relays : HasRelays box row
  relays = relay_counts case box row filled.fits there

  pub best_first : AreFirst case row (best_steps box row)
  best_first = in_box_first case box row (best_steps box row) filled.fits relays (best_in_box box row filled.steps relays)

  pub with_first : (part : Part) (kind : Kind) (step : ℕ) → IsIn (span_at kind box (relay_of part row)) step → AreFirst case row (with_step part kind (best_steps box row) step)
  with_first part kind step is =
      in_box_first case box row (with_step part kind (best_steps box row) step) filled.fits relays (with_in_box part kind box row (best_steps box row) step (best_in_box box row filled.steps relays) is)

  pub best_meetable : MeetsWith case row (best_steps box row) → IsMeetable case box row
  best_meetable meets =
      let found = meets_settings case box row (best_steps box row) filled.steps relays there (best_in_box box row filled.steps relays) meets in
      record { settings = found.0; lies = found.1; meets = found.3 }

  pub meetable_best : IsMeetable case box row → MeetsWith case row (best_steps box row)
  meetable_best m =
      let is = settings_in_box box row m.settings relays m.lies in
      better_meets case row (steps_at m.settings row) (best_steps box row) filled.limits there (in_box_first case box row (steps_at m.settings row) filled.fits relays is) best_first
      (best_is_better box row (steps_at m.settings row) is) m.meets

  pub with_can : (part : Part) (kind : Kind) (step : ℕ) → Asks row.kind part → IsIn (span_at kind box (relay_of part row)) step
      → MeetsWith case row (with_step part kind (best_steps box row) step) → CanMeet case box kind (relay_of part row) step row
  with_can part kind step asks is meets =
      let steps = with_step part kind (best_steps box row) step in
      let found = meets_settings case box row steps filled.steps relays there (with_in_box part kind box row (best_steps box row) step (best_in_box box row filled.steps relays) is) meets in
      record {
        settings = found.0;
        lies = found.1;
        has = step_for_is part kind found.0 row ∙ ap (step_for part kind) found.2 ∙ agreed_has row.kind part kind steps asks ∙ step_for_with part kind (best_steps box row) step;
        meets = found.3;
      }

  pub relay_below : (part : Part) (kind : Kind) → relay_of part row < length (spans_of kind box)
  relay_below Backup kind = relays.backup kind
  relay_below Primary kind = relays.primary kind

  pub can_in : (part : Part) (kind : Kind) (step : ℕ) → CanMeet case box kind (relay_of part row) step row → IsIn (span_at kind box (relay_of part row)) step
  can_in part kind step m = rw m.has at (lies_at box m.settings kind (relay_of part row) m.lies (relay_below part kind))

  pub can_with : (part : Part) (kind : Kind) (step : ℕ) → CanMeet case box kind (relay_of part row) step row → MeetsWith case row (with_step part kind (best_steps box row) step)
  can_with part kind step m =
      let steps = steps_at m.settings row in
      let is = settings_in_box box row m.settings relays m.lies in
      let has : step_for part kind steps ≡ step = sym (step_for_is part kind m.settings row) ∙ m.has in
      let better = subst (λ (s : ℕ). AreBetter steps (with_step part kind (best_steps box row) s)) has (best_with_better part kind box row steps is) in
      better_meets case row steps (with_step part kind (best_steps box row) step) filled.limits there (in_box_first case box row steps filled.fits relays is)
      (with_first part kind step (can_in part kind step m)) better m.meets

  pub meetable_at : (part : Part) (kind : Kind) (m : IsMeetable case box row) → CanMeet case box kind (relay_of part row) (step_of kind m.settings (relay_of part row)) row
  meetable_at part kind m = record { settings = m.settings; lies = m.lies; has = refl; meets = m.meets }

  pub can_rise : Asks row.kind Backup → (kind : Kind) (s t : ℕ) → s ≤ t → t < (span_at kind box row.backup).past → CanMeet case box kind row.backup s row → CanMeet case box kind row.backup t row
  can_rise asks kind s t le before m =
      let is_s = can_in Backup kind s m in
      let is_t : IsIn (span_at kind box row.backup) t = record { from = omega (arith, is_s.from, le); before = before } in
      let best = best_steps box row in
      with_can Backup kind t asks is_t (better_meets case row (with_step Backup kind best s) (with_step Backup kind best t) filled.limits there
      (with_first Backup kind s is_s) (with_first Backup kind t is_t) (higher_better kind best s t le) (can_with Backup kind s m))

  pub can_fall : Asks row.kind Primary → (kind : Kind) (s t : ℕ) → t ≤ s → (span_at kind box row.primary).low ≤ t → CanMeet case box kind row.primary s row → CanMeet case box kind row.primary t row
  can_fall asks kind s t le from m =
      let is_s = can_in Primary kind s m in
      let is_t : IsIn (span_at kind box row.primary) t = record { from = from; before = omega (arith, is_s.before, le) } in
      let best = best_steps box row in
      with_can Primary kind t asks is_t (better_meets case row (with_step Primary kind best s) (with_step Primary kind best t) filled.limits there
      (with_first Primary kind s is_s) (with_first Primary kind t is_t) (lower_better kind best s t le) (can_with Primary kind s m))

  -- a row that can be met can be met with the highest step of the backup, and with the lowest of the primary
  pub meets_highest : Asks row.kind Backup → (kind : Kind) → IsMeetable case box row → CanMeet case box kind row.backup ((span_at kind box row.backup).past - 1) row
  meets_highest asks kind m =
      let at = meetable_at Backup kind m in
      let is = can_in Backup kind (step_of kind m.settings row.backup) at in
      can_rise asks kind (step_of kind m.settings row.backup) ((span_at kind box row.backup).past - 1) (omega (arith, is.before)) (omega (arith, is.before)) at

  pub meets_lowest : Asks row.kind Primary → (kind : Kind) → IsMeetable case box row → CanMeet case box kind row.primary (span_at kind box row.primary).low row
  meets_lowest asks kind m =
      let at = meetable_at Primary kind m in
      can_fall asks kind (step_of kind m.settings row.primary) (span_at kind box row.primary).low (can_in Primary kind (step_of kind m.settings row.primary) at).from (omega arith) at

  -- where the row asks nothing of its backup, it can be met with the lowest step of it; and with the highest of a primary
  pub low_meets : Asks row.kind Primary → row.backup ≡ row.primary → (kind : Kind) → IsMeetable case box row → CanMeet case box kind row.backup (span_at kind box row.backup).low row
  low_meets asks same kind m = subst (λ (r : ℕ). CanMeet case box kind r (span_at kind box r).low row) (sym same) (meets_lowest asks kind m)

  pub high_meets : Asks row.kind Backup → row.backup ≡ row.primary → (kind : Kind) → IsMeetable case box row → CanMeet case box kind row.primary ((span_at kind box row.primary).past - 1) row
  high_meets asks same kind m = subst (λ (r : ℕ). CanMeet case box kind r ((span_at kind box r).past - 1) row) same (meets_highest asks kind m)
