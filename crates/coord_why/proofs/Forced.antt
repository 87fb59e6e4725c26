-- Steps that settings which loosely meet every row can't undercut.
use Rattle.std.specs.Prelude.{slice_get, slice_index}
use Rattle.std.specs.List.{Contains}
use Rattle.std.specs.Option.{IfSome, option_map}
use Rattle.std.proofs.Common.{◌≡◌, ℕ, suc, zero, ◌*◌, ◌<◌, ◌≤◌, List, length, Some, None, Option, arith, refl, sym, subst}
use Rattle.std.proofs.Math.Nat.{mul-le-mul_right}
use Rattle.std.proofs.lemmas.List.Elements.{All-contains}
use Rattle.coord_model.specs.Choice.{Settings}
use Rattle.coord_model.specs.Dial.{dial_at_step}
use Rattle.coord_model.specs.declared.study.Row.{Row}
use Rattle.coord_model.specs.declared.study.RowKind.{RowKind}
use Rattle.coord_model.specs.declared.study.RowKind.TheVariants.{Interval, Least as LeastTime, Most}
use Rattle.coord_why.specs.Climbs.{AreRaised}
use Rattle.coord_why.specs.Links.{HoldsFor, Holds}
use Rattle.coord_why.specs.Raises.{base_of, RestEarlier, AreFounded}
use Rattle.coord_why.specs.declared.climb.Raise.{Raise}
use Rattle.coord_why.specs.declared.link.Link.{Link}
use Rattle.coord_why.specs.declared.link.Reason.{Reason}
use Rattle.coord_why.specs.declared.link.Reason.TheVariants.{Floor, Least, Row as Waits}
use Rattle.margin_rows.specs.Case.{Case, rows_in, row_at}
use Rattle.margin_rows.specs.Least.{IsLeastStep, MeetAll, MeetsAt}
use Rattle.margin_rows.specs.declared.ends.Meeting.TheVariants.{Loose}
use Rattle.margin_rows.specs.Demands.{slow_part, fast_part}
use Rattle.margin_rows.specs.Margin.{MeetsLoosely}
use Rattle.margin_rows.specs.Times.{time_at}
use Rattle.margin_rows.proofs.Dialled.{dial_on_step, dial_rises}
use Rattle.margin_rows.proofs.Listed.{row_facts, at_number}
use Rattle.margin_rows.proofs.Placed.{of_some}
use Rattle.margin_rows.proofs.Places.{some_and}

-- a longer time of a slow relay, and of a fast one
slow_rises : (kind : RowKind) (time longer : ℕ) → time ≤ longer → slow_part kind time ≤ slow_part kind longer
slow_rises Interval time longer rises = rises
slow_rises LeastTime time longer rises = rises
slow_rises Most time longer rises = omega arith

fast_rises : (kind : RowKind) (time longer : ℕ) → time ≤ longer → fast_part kind time ≤ fast_part kind longer
fast_rises Interval time longer rises = rises
fast_rises LeastTime time longer rises = omega arith
fast_rises Most time longer rises = rises

-- a row is met at a higher step of its backup and at a lower one of its primary too
pub met_between : (case : Case) (pickups : List ℕ) (row : Row) (backup primary higher lower : ℕ) → backup ≤ higher → lower ≤ primary
    → MeetsAt Loose case pickups row backup primary → MeetsAt Loose case pickups row higher lower
met_between case pickups row backup primary higher lower rises falls met =
    let upper = (time_at case row.fault row.backup (slice_index pickups row.backup)).upper in
    let lower_end = (time_at case row.fault row.primary (slice_index pickups row.primary)).lower in
    let slow = slow_rises row.kind (dial_at_step case.study row.backup backup * upper) (dial_at_step case.study row.backup higher * upper)
    (mul-le-mul_right upper (dial_rises case.study row.backup backup higher rises)) in
    let fast = fast_rises row.kind (dial_at_step case.study row.primary lower * lower_end) (dial_at_step case.study row.primary primary * lower_end)
    (mul-le-mul_right lower_end (dial_rises case.study row.primary lower primary falls)) in
    omega (arith, met, slow, fast)

-- settings meet a row loosely exactly at the steps of its relays
pub met_at_steps : (case : Case) (pickups : List ℕ) (settings : Settings) (row : Row) → settings.pickup ≡ pickups → MeetsLoosely case settings row
    → MeetsAt Loose case pickups row (slice_index settings.dial row.backup) (slice_index settings.dial row.primary)
met_at_steps case pickups settings row same met =
    let P : List ℕ → Type 0 = λ ps. MeetsAt Loose case ps row (slice_index settings.dial row.backup) (slice_index settings.dial row.primary) in
    subst P same met

pub met_by_steps : (case : Case) (pickups : List ℕ) (settings : Settings) (row : Row) → settings.pickup ≡ pickups
    → MeetsAt Loose case pickups row (slice_index settings.dial row.backup) (slice_index settings.dial row.primary) → MeetsLoosely case settings row
met_by_steps case pickups settings row same met =
    let P : List ℕ → Type 0 = λ ps. MeetsAt Loose case ps row (slice_index settings.dial row.backup) (slice_index settings.dial row.primary) in
    subst P (sym same) met

module _ (case : Case) (pickups : List ℕ) (other : Settings) (loose : MeetAll Loose case pickups other) where
  -- they have no lower step than a row asks for
  pub asked_low : (row : Row) (primary step : ℕ) → Contains (rows_in case) row → primary ≤ slice_index other.dial row.primary
      → IsLeastStep case pickups row primary step → step ≤ slice_index other.dial row.backup
  asked_low row primary step listed low asked =
      asked.least (slice_index other.dial row.backup) (dial_on_step case other row.backup loose.on_steps (row_facts case row listed).backup)
      (met_between case pickups row (slice_index other.dial row.backup) (slice_index other.dial row.primary) (slice_index other.dial row.backup) primary (omega arith) low
      (met_at_steps case pickups other row loose.same_pickups (All-contains (MeetsLoosely case other) (rows_in case) row loose.met listed)))

  -- nor than a link has that holds after one which they don't undercut
  pub link_low : (before : Option Link) (link : Link) → IfSome before (λ base. base.step ≤ slice_index other.dial base.relay) → Holds case pickups before link
      → link.step ≤ slice_index other.dial link.relay
  link_low before link low holds = go link.reason holds
    where
      named : (row primary : ℕ) → row < length (rows_in case) → (row_at case row).backup ≡ link.relay → primary ≤ slice_index other.dial (row_at case row).primary
          → IsLeastStep case pickups (row_at case row) primary link.step → link.step ≤ slice_index other.dial link.relay
      named row primary is_row asks below asked =
          let P : ℕ → Type 0 = λ relay. link.step ≤ slice_index other.dial relay in
          subst P asks (asked_low (row_at case row) primary link.step (at_number case row is_row) below asked)

      go : (reason : Reason) → HoldsFor reason case pickups before link → link.step ≤ slice_index other.dial link.relay
      go Floor floor = omega (arith, floor.lowest)
      go (Least row) least = named row 0 least.names.is_row least.names.asks (omega arith) least.asked
      go (Waits row) waits =
          let base = some_and before _ waits.rests in
          let below = of_some before (λ base. base.step ≤ slice_index other.dial base.relay) base.0 base.1 low in
          let P : ℕ → Type 0 = λ relay. base.0.step ≤ slice_index other.dial relay in
          named row base.0.step waits.names.is_row waits.names.asks (subst P base.2.0 below) base.2.1

  -- nor than the link of a founded raise has
  pub raise_low : (raises : List Raise) → RestEarlier raises → AreFounded case pickups raises → (number : ℕ)
      → IfSome (slice_get raises number) (λ raise. raise.link.step ≤ slice_index other.dial raise.link.relay)
  raise_low raises earlier founded number = go (suc number) number (omega arith)
    where
      go : (past number : ℕ) → number < past → IfSome (slice_get raises number) (λ raise. raise.link.step ≤ slice_index other.dial raise.link.relay)
      go zero number below = absurd (omega (arith, below))
      go (suc past) number below = here (λ base before. go past base (omega (arith, below, before))) (slice_get raises number) refl
        where
          Earlier : Type 0
          Earlier = (base : ℕ) → base < number → IfSome (slice_get raises base) (λ raise. raise.link.step ≤ slice_index other.dial raise.link.relay)

          linked : (o : Option Raise) → IfSome o (λ raise. raise.link.step ≤ slice_index other.dial raise.link.relay)
              → IfSome (option_map (λ (raise : Raise). raise.link) o) (λ base. base.step ≤ slice_index other.dial base.relay)
          linked None low = tt
          linked (Some raise) low = low

          based : Earlier → (rests : Option ℕ) → IfSome rests (λ base. base < number) → IfSome (base_of raises rests) (λ base. base.step ≤ slice_index other.dial base.relay)
          based below None rests = tt
          based below (Some base) rests = linked (slice_get raises base) (below base rests)

          here : Earlier → (o : Option Raise) → slice_get raises number ≡ o → IfSome o (λ raise. raise.link.step ≤ slice_index other.dial raise.link.relay)
          here below None found = tt
          here below (Some raise) found =
              link_low (base_of raises raise.rests) raise.link
              (based below raise.rests (of_some (slice_get raises number) (λ raise. IfSome raise.rests (λ base. base < number)) raise found (earlier number)))
              (of_some (slice_get raises number) (λ raise. Holds case pickups (base_of raises raise.rests) raise.link) raise found (founded number))

  -- nor than raised dials have
  pub dials_low : (dials latest : List ℕ) (raises : List Raise) → AreRaised case pickups dials latest raises → (relay : ℕ) → relay < length case.study.relays
      → slice_index dials relay ≤ slice_index other.dial relay
  dials_low dials latest raises raised relay below =
      let found = some_and (slice_get raises (slice_index latest relay)) _ (raised.reached relay below) in
      let low = of_some (slice_get raises (slice_index latest relay)) (λ raise. raise.link.step ≤ slice_index other.dial raise.link.relay) found.0 found.1
      (raise_low raises raised.earlier raised.founded (slice_index latest relay)) in
      let P : ℕ → Type 0 = λ r. found.0.link.step ≤ slice_index other.dial r in
      let here : found.0.link.step ≤ slice_index other.dial relay = subst P found.2.0 low in
      omega (arith, here, found.2.1)
