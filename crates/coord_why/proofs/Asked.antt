-- What a row asks for that raised dials do not loosely meet, but settings with no lower dials do.
use Rattle.std.specs.Prelude.{slice_get, slice_index}
use Rattle.std.specs.Option.{IsSome, IsSomeAnd, option_map}
use Rattle.std.proofs.Common.{◌≡◌, ℕ, ◌<◌, ◌≤◌, List, length, Some, None, Option, arith, refl, sym, ap, ◌∙◌, subst, inl, inr, get_or, rules}
use Rattle.std.proofs.lemmas.Bool.{cases_lt}
use Rattle.std.proofs.lemmas.Grind.{get_or_default_zero}
use Rattle.std.proofs.lemmas.List.Elements.{All-contains}
use Rattle.std.proofs.lemmas.Option.{slice_get_within}
use Rattle.coord_model.specs.Choice.{Settings, choice_data}
use Rattle.coord_model.specs.declared.study.Row.{Row}
use Rattle.coord_model.specs.declared.study.RowKind.TheVariants.{Interval, Least as LeastTime, Most}
use Rattle.coord_why.specs.Climbs.{IsClimb, IsLooseChoice, IsRaiseFor}
use Rattle.coord_why.specs.declared.climb.Climb.{Climb}
use Rattle.coord_why.specs.declared.climb.Raise.{Raise}
use Rattle.coord_why.specs.declared.link.Link.{Link}
use Rattle.coord_why.specs.declared.link.Reason.TheVariants.{Least, Row as Waits}
use Rattle.coord_why.proofs.Forced.{dials_low, met_at_steps, met_between, met_by_steps}
use Rattle.margin_rows.specs.Case.{Case, rows_in, row_at}
use Rattle.margin_rows.specs.Least.{IsLeastStep, IsLeastStepOf, MeetAll, MeetsAt}
use Rattle.margin_rows.specs.declared.ends.Meeting.TheVariants.{Loose}
use Rattle.margin_rows.specs.Margin.{MeetsLoosely}
use Rattle.margin_rows.proofs.Dialled.{dial_on_step}
use Rattle.margin_rows.proofs.Listed.{row_facts, at_number}
use Rattle.margin_rows.proofs.Places.{some_and}

-- a number that is read from a list
pub number_read : (xs : List ℕ) (i j x : ℕ) → i ≡ j → j < length xs → x ≡ get_or xs i x → x ≡ slice_index xs j
number_read xs i j x same below read = read ∙ ap (λ (k : ℕ). get_or xs k x) same ∙ get_or_default_zero xs j x below

-- a least row asks nothing of its primary, and a most row nothing of its backup
least_alone : (case : Case) (pickups : List ℕ) (row : Row) (backup primary other : ℕ) → row.kind ≡ LeastTime → MeetsAt Loose case pickups row backup primary → MeetsAt Loose case pickups row backup other
least_alone case pickups row backup primary other kind met = rw kind (rw kind at met)

most_alone : (case : Case) (pickups : List ℕ) (row : Row) (backup other primary : ℕ) → row.kind ≡ Most → MeetsAt Loose case pickups row backup primary → MeetsAt Loose case pickups row other primary
most_alone case pickups row backup other primary kind met = rw kind (rw kind at met)

module _ (case : Case) (settings : Settings) (climb : Climb) (row : ℕ) (choice : IsLooseChoice case settings) (is : IsClimb case settings climb) (below : row < length (rows_in case)) where
  abbrev at : Row
  at = row_at case row

  abbrev step_of : ℕ → ℕ
  step_of relay = slice_index climb.low.dial.items relay

  loose : MeetAll Loose case settings.pickup settings
  loose = record { same_pickups = refl; on_steps = choice.first_box.on_steps; met = choice.met }

  low : (relay : ℕ) → relay < length case.study.relays → step_of relay ≤ slice_index settings.dial relay
  low relay inside = dials_low case settings.pickup settings loose climb.low.dial.items climb.latest.items climb.raises.items is.raised relay inside

  -- the settings meet the row also with its primary at the raised dial
  met : MeetsAt Loose case climb.low.pickup.items at (slice_index settings.dial at.backup) (step_of at.primary)
  met =
      let listed = at_number case row below in
      met_between case climb.low.pickup.items at (slice_index settings.dial at.backup) (slice_index settings.dial at.primary) (slice_index settings.dial at.backup) (step_of at.primary) (omega arith)
      (low at.primary (row_facts case at listed).primary)
      (met_at_steps case climb.low.pickup.items settings at (sym is.pickups) (All-contains (MeetsLoosely case settings) (rows_in case) at choice.met listed))

  -- so some step meets it
  pub is_asked : (found : Option ℕ) → IsLeastStepOf case climb.low.pickup.items at (step_of at.primary) found → IsSome found
  is_asked None none =
      absurd (none (slice_index settings.dial at.backup) (dial_on_step case settings at.backup choice.first_box.on_steps (row_facts case at (at_number case row below)).backup) met)
  is_asked (Some step) least = search rules

  -- that step, as the code reads it
  pub asked_read : (pickups : List ℕ) (row_read : Row) (place dial : ℕ) (found : Option ℕ) → pickups ≡ climb.low.pickup.items → row_read ≡ at → place ≡ row_read.primary
      → dial ≡ get_or climb.low.dial.items place dial → IsLeastStepOf case pickups at dial found → IsLeastStepOf case climb.low.pickup.items at (step_of at.primary) found
  asked_read pickups row_read place dial found same row_is placed read asked =
      let P : List ℕ → ℕ → Type 0 = λ ps d. IsLeastStepOf case ps at d found in
      let dial_is = number_read climb.low.dial.items place at.primary dial (placed ∙ ap (λ (r : Row). r.primary) row_is)
      (omega (arith, (row_facts case at (at_number case row below)).primary, is.first_box.on_steps.dials)) read in
      subst (λ (ps : List ℕ). P ps (step_of at.primary)) same (subst (λ (d : ℕ). P pickups d) dial_is asked)

  pub latest_read : (row_read : Row) (place number : ℕ) → row_read ≡ at → place ≡ row_read.primary → number ≡ get_or climb.latest.items place number
      → number ≡ slice_index climb.latest.items at.primary
  latest_read row_read place number row_is placed read =
      number_read climb.latest.items place at.primary number (placed ∙ ap (λ (r : Row). r.primary) row_is)
      (omega (arith, (row_facts case at (at_number case row below)).primary, is.raised.count)) read

  -- and it is no most row
  pub not_most : (MeetsLoosely case (choice_data climb.low) at → ⊥) → at.kind ≡ Most → ⊥
  not_most short kind =
      short (met_by_steps case climb.low.pickup.items (choice_data climb.low) at refl
      (most_alone case climb.low.pickup.items at (slice_index settings.dial at.backup) (step_of at.backup) (step_of at.primary) kind met))

  module _ (short : MeetsLoosely case (choice_data climb.low) at → ⊥) (step : ℕ) (asked : IsLeastStep case climb.low.pickup.items at (step_of at.primary) step) where
    above : step_of at.backup < step
    above = elim (cases_lt (step_of at.backup) step) [
      | inl rises ↦ rises
      | inr past ↦ absurd (short (met_by_steps case climb.low.pickup.items (choice_data climb.low) at refl
          (met_between case climb.low.pickup.items at step (step_of at.primary) (step_of at.backup) (step_of at.primary) past (omega arith) asked.met)))
    ]

    inside : at.backup < length case.study.relays
    inside = (row_facts case at (at_number case row below)).backup

    asked_of : IsLeastStep case settings.pickup at (step_of at.primary) step
    asked_of = let P : List ℕ → Type 0 = λ ps. IsLeastStep case ps at (step_of at.primary) step in subst P is.pickups asked

    linked : (o : Option Raise) (P : Link → Type 0) (raise : Raise) → o ≡ Some raise → P raise.link → IsSomeAnd (option_map (λ (r : Raise). r.link) o) P
    linked o P raise found fact = rw found fact

    pub interval_raise : (number : ℕ) (row_read : Row) → row_read ≡ at → row_read.kind ≡ Interval → number ≡ slice_index climb.latest.items at.primary
        → IsRaiseFor case settings climb (record { link = record { relay = row_read.backup; step = step; reason = Waits row }; rests = Some number })
    interval_raise number row_read same kind read =
        let P : Row → Type 0 = λ r. IsRaiseFor case settings climb (record { link = record { relay = r.backup; step = step; reason = Waits row }; rests = Some number }) in
        let there = some_and (slice_get climb.raises.items (slice_index climb.latest.items at.primary)) _ (is.raised.reached at.primary (row_facts case at (at_number case row below)).primary) in
        let found : slice_get climb.raises.items number ≡ Some there.0 = ap (λ (k : ℕ). slice_get climb.raises.items k) read ∙ there.1 in
        let Q : ℕ → Type 0 = λ t. IsLeastStep case settings.pickup at t step in
        subst P (sym same) (record {
          relay = inside;
          on_step = asked.on_step;
          above = above;
          earlier = slice_get_within climb.raises.items number there.0 found;
          holds = record {
            names = record { is_row = below; of_kind = ap (λ (r : Row). r.kind) (sym same) ∙ kind; asks = refl };
            rests = linked (slice_get climb.raises.items number) (λ base. (base.relay ≡ at.primary) × IsLeastStep case settings.pickup at base.step step) there.0 found (there.2.0, subst Q (sym there.2.1) asked_of);
          };
        })

    pub least_raise : (row_read : Row) → row_read ≡ at → row_read.kind ≡ LeastTime
        → IsRaiseFor case settings climb (record { link = record { relay = row_read.backup; step = step; reason = Least row }; rests = None })
    least_raise row_read same kind =
        let P : Row → Type 0 = λ r. IsRaiseFor case settings climb (record { link = record { relay = r.backup; step = step; reason = Least row }; rests = None }) in
        let least_kind : at.kind ≡ LeastTime = ap (λ (r : Row). r.kind) (sym same) ∙ kind in
        subst P (sym same) (record {
          relay = inside;
          on_step = asked.on_step;
          above = above;
          earlier = tt;
          holds = record {
            first = refl;
            names = record { is_row = below; of_kind = least_kind; asks = refl };
            asked = record {
              on_step = asked.on_step;
              met = least_alone case settings.pickup at step (step_of at.primary) 0 least_kind asked_of.met;
              least = λ other on_step met_there. asked_of.least other on_step (least_alone case settings.pickup at other 0 (step_of at.primary) least_kind met_there);
            };
          };
        })
