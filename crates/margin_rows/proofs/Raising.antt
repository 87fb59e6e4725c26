-- Raising dials to the least that meet every row.
use Rattle.std.specs.Prelude.{slice_get, slice_index}
use Rattle.std.proofs.Common.{◌≡◌, ℕ, suc, ◌+◌, ◌*◌, ◌<◌, ◌≤◌, ◌↔◌, inl, inr, List, [], ◌∷◌, length, set, replicate, Some, None, Option, arith, refl, sym, ap, ◌∙◌, subst, below_more, get_or-set_same, get_or-set_other}
use Rattle.std.proofs.Math.Nat.{mul-le-mul_right}
use Rattle.std.proofs.lemmas.Bool.{cases_eq, cases_lt}
use Rattle.std.proofs.lemmas.List.{length-set, length-replicate, ext_get_or}
use Rattle.std.proofs.lemmas.List.Elements.{All-contains}
use Rattle.std.proofs.lemmas.List.Sums.{sum_by-set, sum_by-cons}
use Rattle.std.proofs.lemmas.Option.{slice_get_within, get_or_from_slice_get}
use Rattle.std.specs.Int.{div_ceil}
use Rattle.std.specs.List.{All, Contains, sum_by}
use Rattle.std.specs.Option.{IfSome, IsSomeAnd}
use Rattle.coord_model.proofs.Quotients.{ceil_covers, ceil_least}
use Rattle.coord_model.specs.Allowed.{IsOnSteps, IsSensible}
use Rattle.coord_model.specs.Choice.{Settings}
use Rattle.coord_model.specs.Dial.{dial_at_step}
use Rattle.coord_model.specs.PartLimits.{FitsRelay}
use Rattle.coord_model.specs.StudyData.{StudyData}
use Rattle.coord_model.specs.Time.{dial_at}
use Rattle.coord_model.specs.declared.study.Relay.{Relay}
use Rattle.coord_model.specs.declared.study.Row.{Row}
use Rattle.coord_model.specs.declared.study.RowKind.{RowKind}
use Rattle.coord_model.specs.declared.study.RowKind.TheVariants.{Interval, Least, Most}
use Rattle.margin_rows.specs.Box.{IsDialStep}
use Rattle.margin_rows.specs.Case.{Case, FitsCase, row_at, rows_in}
use Rattle.margin_rows.specs.FirstBox.{IsFirstStep, IsInFirstBox}
use Rattle.margin_rows.specs.Least.{AreFirstPickups, AreLeast, AreLeastOf, IsLeastStepOf, MeetAll, MeetsAt, slow_end, fast_end}
use Rattle.margin_rows.specs.Demands.{slow_part, fast_part, asked_ps, granted_ps}
use Rattle.margin_rows.specs.Margin.{MeetsAs}
use Rattle.margin_rows.specs.Raised.{IsWaitOf, FitsWait, due_at, AreDialSteps, Suffices, IsRaised, AreLow, IsRound, step_sum}
use Rattle.margin_rows.specs.Times.{time_at}
use Rattle.margin_rows.specs.declared.ends.Meeting.{Meeting}
use Rattle.margin_rows.specs.declared.ends.Meeting.TheVariants.{Strict, Loose}
use Rattle.margin_rows.specs.declared.least.Rise.{Rise}
use Rattle.margin_rows.specs.declared.least.Rise.TheVariants.{Kept, Rose, Beyond}
use Rattle.margin_rows.specs.declared.least.Wait.{Wait}
use Rattle.margin_rows.proofs.Dialled.{dial_on_step, dial_rises}
use Rattle.margin_rows.proofs.Listed.{row_facts}
use Rattle.margin_rows.proofs.Placed.{of_some, all_rows}
use Rattle.margin_rows.proofs.Places.{and_some}
use Rattle.margin_rows.proofs.Timed.{at_place}
use Rattle.margin_rows.proofs.Written.{in_list, zeros_at}

-- the dial of a relay that is there
dial_there : (study : StudyData) (i step : ℕ) (relay : Relay) → slice_get study.relays i ≡ Some relay → dial_at_step study i step ≡ dial_at relay step
dial_there study i step relay found = rw found refl

-- the least step of a relay that reaches a dial suffices, and is the least that does
module _ (case : Case) (i time due dial : ℕ) (relay : Relay) (found : slice_get case.study.relays i ≡ Some relay) (some : 0 < time) (is : dial ≡ div_ceil due time) where
  pub reached_suffices : (o : Option ℕ) → IfSome o (λ step. (step < relay.dial_count) × (dial ≤ dial_at relay step)) → IfSome o (λ step. IsDialStep case i step × (due ≤ dial_at_step case.study i step * time))
  reached_suffices None fact = tt
  reached_suffices (Some step) fact =
      let covers : dial * time ≤ dial_at relay step * time = mul-le-mul_right time fact.1 in
      let enough : due ≤ dial * time = rw is (ceil_covers due time some) in
      let here : due ≤ dial_at relay step * time = omega (arith, covers, enough) in
      (and_some (slice_get case.study.relays i) (λ r. step < r.dial_count) relay found fact.0, rw (dial_there case.study i step relay found) here)

  pub reached_least : (o : Option ℕ) → ((step : ℕ) → step < relay.dial_count → dial ≤ dial_at relay step → IsSomeAnd o (λ first. first ≤ step))
      → (step : ℕ) → IsDialStep case i step → due ≤ dial_at_step case.study i step * time → IsSomeAnd o (λ first. first ≤ step)
  reached_least o least step on_step suffices =
      let below = rw found at on_step in
      let enough = rw (dial_there case.study i step relay found) at suffices in
      least step below (rw is (ceil_least due time (dial_at relay step) some enough))

-- a step at which the relay is slower lies higher
pub longer_is_higher : (study : StudyData) (i old new time bound : ℕ) → dial_at_step study i old * time < bound → bound ≤ dial_at_step study i new * time → old < new
longer_is_higher study i old new time bound short enough = elim (cases_lt old new) [
  | inl below ↦ below
  | inr past ↦ absurd (let fall : dial_at_step study i new * time ≤ dial_at_step study i old * time = mul-le-mul_right time (dial_rises study i new old past) in omega (arith, short, enough, fall))
]

-- a dial times the part of a time that counts is the part of the dial times the time
slow_scaled : (kind : RowKind) (dial time : ℕ) → slow_part kind (dial * time) ≡ dial * slow_part kind time
slow_scaled Interval dial time = refl
slow_scaled Least dial time = refl
slow_scaled Most dial time = omega arith

fast_scaled : (kind : RowKind) (dial time : ℕ) → fast_part kind (dial * time) ≡ dial * fast_part kind time
fast_scaled Interval dial time = refl
fast_scaled Least dial time = omega arith
fast_scaled Most dial time = refl

-- settings meet the row exactly if it is met with their pickups and at their dial steps
at_steps : (meeting : Meeting) (case : Case) (row : Row) (settings : Settings)
    → MeetsAs meeting case settings row ↔ MeetsAt meeting case settings.pickup row (slice_index settings.dial row.backup) (slice_index settings.dial row.primary)
at_steps Strict case row settings = (λ met. met, λ met. met)
at_steps Loose case row settings = (λ met. met, λ met. met)

-- the row is met with its slow relay at a dial step and its fast relay at another, if the wait's times leave what it asks
abbrev pub Leaves : Case → Wait → ℕ → ℕ → Type 0
Leaves case wait slow fast = due_at case wait fast ≤ dial_at_step case.study wait.backup slow * wait.slow_time + wait.granted

pub wait_is : (meeting : Meeting) (case : Case) (pickups : List ℕ) (row : Row) (wait : Wait) (slow fast : ℕ) → IsWaitOf meeting case pickups row wait → MeetsAt meeting case pickups row slow fast ↔ Leaves case wait slow fast
wait_is meeting case pickups row wait slow fast is = rw (is.backup, is.primary, is.slow_time, is.fast_time, is.asked, is.granted) (scaled row.kind)
  where
    slow_at : ℕ
    slow_at = slow_end meeting (time_at case row.fault row.backup (slice_index pickups row.backup))

    fast_at : ℕ
    fast_at = fast_end meeting (time_at case row.fault row.primary (slice_index pickups row.primary))

    scaled : (kind : RowKind) → (fast_part kind (dial_at_step case.study row.primary fast * fast_at) + asked_ps case.study row ≤ slow_part kind (dial_at_step case.study row.backup slow * slow_at) + granted_ps case.study row)
        ↔ (dial_at_step case.study row.primary fast * fast_part kind fast_at + asked_ps case.study row ≤ dial_at_step case.study row.backup slow * slow_part kind slow_at + granted_ps case.study row)
    scaled kind =
        let fasts = fast_scaled kind (dial_at_step case.study row.primary fast) fast_at in
        let slows = slow_scaled kind (dial_at_step case.study row.backup slow) slow_at in
        (λ met. omega (arith, met, fasts, slows), λ leaves. omega (arith, leaves, fasts, slows))

-- the row is met where the slow relay's dial suffices
pub wait_meets : (meeting : Meeting) (case : Case) (pickups dials : List ℕ) (row : Row) (wait : Wait) → IsWaitOf meeting case pickups row wait → Suffices case dials wait (slice_index dials wait.backup)
    → MeetsAs meeting case (record { pickup = pickups; dial = dials }) row
wait_meets meeting case pickups dials row wait is suffices =
    (at_steps meeting case row (record { pickup = pickups; dial = dials })).1
    ((wait_is meeting case pickups row wait (slice_index dials row.backup) (slice_index dials row.primary) is).1 (rw (← is.backup, ← is.primary) suffices))

-- where settings that meet every row have no lower dials, their dial of the slow relay suffices
pub other_suffices : (meeting : Meeting) (case : Case) (pickups dials : List ℕ) (row : Row) (wait : Wait) (other : Settings) → Contains (rows_in case) row → IsWaitOf meeting case pickups row wait → AreLow meeting case pickups dials
    → MeetAll meeting case pickups other → IsDialStep case wait.backup (slice_index other.dial wait.backup) × Suffices case dials wait (slice_index other.dial wait.backup)
other_suffices meeting case pickups dials row wait other listed is low meet =
    let met = All-contains (MeetsAs meeting case other) (rows_in case) row meet.met listed in
    let At : List ℕ → Type 0 = λ ps. MeetsAt meeting case ps row (slice_index other.dial row.backup) (slice_index other.dial row.primary) in
    let at = subst At meet.same_pickups ((at_steps meeting case row other).0 met) in
    let leaves = (wait_is meeting case pickups row wait (slice_index other.dial row.backup) (slice_index other.dial row.primary) is).0 at in
    let rises = mul-le-mul_right wait.fast_time (dial_rises case.study row.primary (slice_index dials row.primary) (slice_index other.dial row.primary) (low.lowest other meet row.primary)) in (
      rw is.backup (dial_on_step case other row.backup meet.on_steps (row_facts case row listed).backup),
      rw (is.backup, is.primary) (let due = rw (is.backup, is.primary) at leaves in omega (arith, due, rises)),
    )

-- what the least step that suffices is in the words of the row
pub least_step : (case : Case) (pickups : List ℕ) (row : Row) (wait : Wait) (fast : ℕ) (found : Option ℕ) → IsWaitOf Loose case pickups row wait
    → IfSome found (λ step. IsDialStep case wait.backup step × Leaves case wait step fast)
    → ((step : ℕ) → IsDialStep case wait.backup step → Leaves case wait step fast → IsSomeAnd found (λ first. first ≤ step)) → IsLeastStepOf case pickups row fast found
least_step case pickups row wait fast None is suffices least =
    λ other on_step met. least other (rw is.backup on_step) ((wait_is Loose case pickups row wait other fast is).0 met)
least_step case pickups row wait fast (Some step) is suffices least = record {
  on_step = rw is.backup at suffices.0;
  met = (wait_is Loose case pickups row wait step fast is).1 suffices.1;
  least = λ other on_step met. least other (rw is.backup on_step) ((wait_is Loose case pickups row wait other fast is).0 met);
}

-- the dials after one rose are low too
pub raised_low : (meeting : Meeting) (case : Case) (pickups old new : List ℕ) (row : Row) (wait : Wait) → FitsWait case wait → Contains (rows_in case) row → IsWaitOf meeting case pickups row wait → AreLow meeting case pickups old → IsRaised case wait old new → AreLow meeting case pickups new
raised_low meeting case pickups old new row wait fits listed is low raised =
    let P : List ℕ → Type 0 = λ ds. AreLow meeting case pickups ds in
    subst P (sym raised.written) (record {
      on_steps = record {
        count = length-set old wait.backup raised.step ∙ low.on_steps.count;
        each = λ i below. elim (cases_eq i wait.backup) [
          | inl same ↦ rw (same, risen) raised.on_step
          | inr apart ↦ rw (kept i apart) (low.on_steps.each i below)
        ];
      };
      lowest = λ other meet i. elim (cases_eq i wait.backup) [
        | inl same ↦
            let enough = other_suffices meeting case pickups old row wait other listed is low meet in
            rw (same, risen) (raised.least (slice_index other.dial wait.backup) enough.0 enough.1)
        | inr apart ↦ rw (kept i apart) (low.lowest other meet i)
      ];
    })
  where
    risen : slice_index (set old wait.backup raised.step) wait.backup ≡ raised.step
    risen = get_or-set_same old wait.backup raised.step 0 (omega (arith, fits.backup, low.on_steps.count))

    kept : (i : ℕ) → (i ≡ wait.backup → ⊥) → slice_index (set old wait.backup raised.step) i ≡ slice_index old i
    kept i apart = get_or-set_other old wait.backup i raised.step 0 apart

-- and their sum is greater
pub raised_sum : (case : Case) (wait : Wait) (old new : List ℕ) → FitsWait case wait → AreDialSteps case old → IsRaised case wait old new → step_sum old < step_sum new
raised_sum case wait old new fits on_steps raised =
    let inside : wait.backup < length old = omega (arith, fits.backup, on_steps.count) in
    let above = raised.above in
    rw raised.written (omega (arith, sum_by-set (λ (step : ℕ). step) old wait.backup raised.step 0 inside, above))

-- what the first rows did: the dials are those before and meet them, or one rose
abbrev pub IsSoFar : Meeting → Case → List ℕ → List ℕ → List ℕ → ℕ → Rise → Type 0
IsSoFar meeting case pickups old new row Kept = (new ≡ old) × ((k : ℕ) → k < row → MeetsAs meeting case (record { pickup = pickups; dial = new }) (row_at case k))
IsSoFar meeting case pickups old new row Rose = step_sum old < step_sum new
IsSoFar meeting case pickups old new row Beyond = ⊥

-- one row more, at which the dials were kept or one rose
pub so_far_kept : (meeting : Meeting) (case : Case) (pickups first old new : List ℕ) (row : ℕ) (rise : Rise) → new ≡ old → MeetsAs meeting case (record { pickup = pickups; dial = old }) (row_at case row) → IsSoFar meeting case pickups first old row rise
    → IsSoFar meeting case pickups first new (row + 1) rise
so_far_kept meeting case pickups first old new row Kept same met so_far =
    (same ∙ so_far.0, let P : List ℕ → Type 0 = λ ds. (k : ℕ) → k < row + 1 → MeetsAs meeting case (record { pickup = pickups; dial = ds }) (row_at case k) in subst P (sym same) (below_more (λ k. MeetsAs meeting case (record { pickup = pickups; dial = old }) (row_at case k)) row so_far.1 met))
so_far_kept meeting case pickups first old new row Rose same met so_far = omega (arith, so_far, ap (λ (ds : List ℕ). step_sum ds) same)
so_far_kept meeting case pickups first old new row Beyond same met so_far = so_far

pub so_far_rose : (meeting : Meeting) (case : Case) (pickups first old new : List ℕ) (row : ℕ) (rise : Rise) → step_sum old < step_sum new → IsSoFar meeting case pickups first old row rise → IsSoFar meeting case pickups first new (row + 1) Rose
so_far_rose meeting case pickups first old new row Kept rose so_far = omega (arith, rose, ap (λ (ds : List ℕ). step_sum ds) so_far.0)
so_far_rose meeting case pickups first old new row Rose rose so_far = omega (arith, rose, so_far)
so_far_rose meeting case pickups first old new row Beyond rose so_far = absurd so_far

-- all rows
pub round_done : (meeting : Meeting) (case : Case) (pickups first new : List ℕ) (count : ℕ) (rise : Rise) → length (rows_in case) ≤ count → AreLow meeting case pickups new → IsSoFar meeting case pickups first new count rise → IsRound meeting case pickups first new rise
round_done meeting case pickups first new count Kept covers low so_far = (low, all_rows case (MeetsAs meeting case (record { pickup = pickups; dial = new })) count covers so_far.1)
round_done meeting case pickups first new count Rose covers low so_far = (low, so_far)
round_done meeting case pickups first new count Beyond covers low so_far = absurd so_far

-- the sum of dial steps is at most that of the counts
pub sum_bounded : (case : Case) (dials : List ℕ) → AreDialSteps case dials → step_sum dials ≤ sum_by (λ relay. relay.dial_count) case.study.relays
sum_bounded case dials on_steps = go dials case.study.relays on_steps.count on_steps.each
  where
    go : (ds : List ℕ) (relays : List Relay) → length ds ≡ length relays → ((i : ℕ) → i < length relays → IsSomeAnd (slice_get relays i) (λ r. slice_index ds i < r.dial_count)) → sum_by (λ (step : ℕ). step) ds ≤ sum_by (λ relay. relay.dial_count) relays
    go [] relays count each = omega arith
    go (d ∷ ds) [] count each = omega (arith, count)
    go (d ∷ ds) (r ∷ relays) count each =
        let first = each 0 (omega arith) in
        let others = go ds relays (omega (arith, count)) (λ i below. each (suc i) (omega (arith, below))) in
        rw (sum_by-cons (λ (step : ℕ). step) d ds, sum_by-cons (λ (relay : Relay). relay.dial_count) r relays) (omega (arith, first, others))

-- each relay has the first dial step
pub first_step : (case : Case) → FitsCase case → (i : ℕ) → i < length case.study.relays → IsDialStep case i 0
first_step case fits i below =
    let there = in_list case.study.relays i below in
    let relay_fits = at_place (FitsRelay case.study) case.study.relays i there.0 fits.study.relays there.1 in
    and_some (slice_get case.study.relays i) (λ r. 0 < r.dial_count) there.0 there.1 (omega (arith, relay_fits.dial_count.at_least))

-- the first dials are low
pub first_low : (meeting : Meeting) (case : Case) (pickups : List ℕ) (count : ℕ) → FitsCase case → count ≡ length case.study.relays → AreLow meeting case pickups (replicate count 0)
first_low meeting case pickups count fits is =
    let zeros : List ℕ = replicate count 0 in
    record {
      on_steps = record { count = length-replicate count 0 ∙ is; each = λ i below. has_first i below };
      lowest = λ other meet i. omega (arith, zeros_at count i);
    }
  where
    has_first : (i : ℕ) → i < length case.study.relays → IsDialStep case i (slice_index (replicate count 0) i)
    has_first i below = let P : ℕ → Type 0 = λ k. IsDialStep case i k in subst P (sym (zeros_at count i)) (first_step case fits i below)

-- the pickup of each relay is a step of the first box
pub pickup_is_first : (case : Case) (pickups : List ℕ) (i : ℕ) → AreFirstPickups case pickups → i < length case.study.relays → IsFirstStep case i (slice_index pickups i)
pickup_is_first case pickups i first below =
    let there = in_list pickups i (omega (arith, below, first.count)) in
    let P : ℕ → Type 0 = λ k. IsFirstStep case i k in
    subst P (sym (get_or_from_slice_get pickups i there.0 0 there.1)) (of_some (slice_get pickups i) (IsFirstStep case i) there.0 there.1 (first.each i))

-- settings with low dials that meet every row are the least
pub low_is_least : (meeting : Meeting) (case : Case) (pickups dials : List ℕ) → AreFirstPickups case pickups → AreLow meeting case pickups dials → All (MeetsAs meeting case (record { pickup = pickups; dial = dials })) (rows_in case)
    → AreLeast meeting case pickups (record { pickup = pickups; dial = dials })
low_is_least meeting case pickups dials first low met = record {
  meet = record {
    same_pickups = refl;
    on_steps = record { pickups = first.count; dials = low.on_steps.count; steps = λ i. steps i (slice_get case.study.relays i) refl };
    met = met;
  };
  least = low.lowest;
}
  where
    steps : (i : ℕ) (o : Option Relay) → slice_get case.study.relays i ≡ o → IfSome o (λ relay. IsOnSteps relay (slice_index pickups i) (slice_index dials i))
    steps i None found = tt
    steps i (Some relay) found =
        let below = slice_get_within case.study.relays i relay found in
        let pickup = rw found at (pickup_is_first case pickups i first below) in
        let dial = rw found at (low.on_steps.each i below) in
        record { pickup_step = pickup.0; dial_step = dial }

-- and they lie in the first box
pub least_in_first_box : (meeting : Meeting) (case : Case) (pickups : List ℕ) (settings : Settings) → AreFirstPickups case pickups → AreLeast meeting case pickups settings → IsInFirstBox case settings
least_in_first_box meeting case pickups settings first least = record {
  on_steps = least.meet.on_steps;
  sensible = λ i. sensible i (slice_get case.study.relays i) refl;
}
  where
    sensible : (i : ℕ) (o : Option Relay) → slice_get case.study.relays i ≡ o → IfSome o (λ relay. IsSensible case.study case.currents i relay (slice_index settings.pickup i))
    sensible i None found = tt
    sensible i (Some relay) found =
        let pickup = rw found at (pickup_is_first case pickups i first (slice_get_within case.study.relays i relay found)) in
        let P : List ℕ → Type 0 = λ ps. IsSensible case.study case.currents i relay (slice_index ps i) in
        subst P (sym least.meet.same_pickups) pickup.1

-- there is one least choice of pickups at most
pub one_least : (meeting : Meeting) (case : Case) (pickups : List ℕ) (found other : Option Settings) → AreLeastOf meeting case pickups found → AreLeastOf meeting case pickups other → other ≡ found
one_least meeting case pickups None None none least = refl
one_least meeting case pickups None (Some other) none least = absurd (none other least.meet)
one_least meeting case pickups (Some found) None least none = absurd (none found least.meet)
one_least meeting case pickups (Some found) (Some other) first second =
    let dials = ext_get_or 0 other.dial found.dial (second.meet.on_steps.dials ∙ sym first.meet.on_steps.dials) (λ i below. omega (arith, first.least other second.meet i, second.least found first.meet i)) in
    let P : List ℕ → List ℕ → Type 0 = λ ps ds. other ≡ record { pickup = ps; dial = ds } in
    ap Some (subst (λ (ds : List ℕ). P found.pickup ds) dials (subst (λ (ps : List ℕ). P ps other.dial) (second.meet.same_pickups ∙ sym first.meet.same_pickups) refl))
