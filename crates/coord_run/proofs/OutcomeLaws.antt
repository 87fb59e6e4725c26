-- What one may rest on after a search, by what its outcome is.
use Rattle.std.specs.Prelude.{Option, Some, None, is_some, not, ⊤, IfSome, IsSomeAnd}
use Rattle.std.specs.Option.{option_map}
use Rattle.std.proofs.Common.{◌≡◌, ◌∙◌, ℕ, ◌+◌, ◌<◌, ◌≤◌, ◌&&◌, Bool, true, false, length, arith, refl, sym, ap, subst}
use Rattle.std.proofs.lemmas.Bool.Decides.{Decides-eqb}
use Rattle.branch_bound.specs.HairLeaf.{IsFirstHair, IsHairPlace}
use Rattle.branch_bound.specs.Outcome.{IsOutcome}
use Rattle.branch_bound.specs.declared.outcome.HairPlace.{HairPlace}
use Rattle.branch_bound.specs.declared.outcome.Outcome.{Outcome}
use Rattle.cert_tree.specs.Endings.{boxes, has_hair, has_no_settings, has_open_leaf, is_close}
use Rattle.cert_tree.proofs.Proving.{holds_proves}
use Rattle.cert_tree.specs.Proving.{IsProved}
use Rattle.coord_model.specs.Allowed.{AreOnSteps, IsAllowed}
use Rattle.coord_model.specs.Choice.{Settings, choice_data}
use Rattle.coord_model.specs.Cost.{CostsAtMost, IsBelowAll}
use Rattle.coord_model.specs.Tree.{Tree}
use Rattle.coord_model.specs.declared.choice.Choice.{Choice}
use Rattle.coord_model.specs.declared.choice.Ending.{Ending}
use Rattle.coord_model.specs.declared.choice.Ending.TheVariants.{Closed, NoSettings, BudgetSpent, Hairline}
use Rattle.coord_run.specs.Asserted.{HasNoSettings, IsClosed, IsHair, IsHairline, IsSpent}
use Rattle.coord_run.specs.Shown.{IsShown}
use Rattle.coord_run.specs.Solve.{ComesTo}
use Rattle.coord_words.specs.SolveWords.{SolveWords}
use Rattle.coord_run.specs.Status.{ending_status}
use Rattle.coord_run.proofs.EndingLaws.{apart_says, both, close_says, closed_asks, hairline_asks, holds_short, holds_some, is_not, none_asks, spent_asks}
use Rattle.margin_rows.specs.Case.{Case, row_at, rows_in}
use Rattle.margin_rows.specs.FirstBox.{IsInFirstBox}
use Rattle.margin_rows.specs.Least.{IsStrictLeast}
use Rattle.margin_rows.specs.Price.{cost_of}
use Rattle.margin_rows.proofs.Boxed.{allowed_in_first_box, row_near, set_terms, strict_allowed}
use Rattle.margin_rows.proofs.Costs.{costs_at_most}
use Rattle.margin_rows.proofs.Inside.{first_box_holds}
use Rattle.margin_rows.proofs.Listed.{at_number}
use Rattle.margin_rows.proofs.SmallSums.{cost_small}
use Rattle.margin_rows.proofs.Spanned.{first_box_fits}
use Rattle.coord_text.specs.Claims.{BoundGoesWith, CostGoesWith, IsShort}

-- ---- an outcome

module _ (case : Case) (asked : SolveWords) (outcome : Outcome) (comes : ComesTo case asked outcome) where
  is : IsOutcome case comes.gap asked.budget comes.reached.state outcome
  is = comes.reached.is_outcome

  -- settings that are issued
  pub issued_first : IfSome outcome.issued (λ choice. IsInFirstBox case (choice_data choice))
  issued_first = go outcome.issued comes.reached.state.issued is.issued is.first_box
    where
      go : (issued : Option Choice) (held : Option Settings) → option_map choice_data issued ≡ held → IfSome held (IsInFirstBox case) → IfSome issued (λ choice. IsInFirstBox case (choice_data choice))
      go None held same first = tt
      go (Some choice) held same first = subst (λ o. IfSome o (IsInFirstBox case)) (sym same) first

  pub allowed : IfSome outcome.issued (λ choice. IsAllowed case.study case.currents (choice_data choice))
  allowed = go outcome.issued comes.reached.state.issued is.issued is.first_box is.sound.least
    where
      one : (settings : Settings) → IsInFirstBox case settings → IsStrictLeast case settings.pickup settings → IsAllowed case.study case.currents settings
      one settings first least = strict_allowed case settings comes.fits first least.meet.met

      go : (issued : Option Choice) (held : Option Settings) → option_map choice_data issued ≡ held → IfSome held (IsInFirstBox case) → IfSome held (λ s. IsStrictLeast case s.pickup s)
          → IfSome issued (λ choice. IsAllowed case.study case.currents (choice_data choice))
      go None held same first least = tt
      go (Some choice) held same first least =
          one (choice_data choice) (subst (λ o. IfSome o (IsInFirstBox case)) (sym same) first) (subst (λ o. IfSome o (λ s. IsStrictLeast case s.pickup s)) (sym same) least)

  cost_is : outcome.cost ≡ option_map (λ choice. cost_of case (choice_data choice)) outcome.issued
  cost_is = is.cost ∙ ap (option_map (cost_of case)) (sym is.issued) ∙ go outcome.issued
    where
      go : (issued : Option Choice) → option_map (cost_of case) (option_map choice_data issued) ≡ option_map (λ choice. cost_of case (choice_data choice)) issued
      go None = refl
      go (Some choice) = refl

  pub at_most : IfSome outcome.issued (λ choice. IsSomeAnd outcome.cost (CostsAtMost case.study case.currents (choice_data choice)))
  at_most = rw cost_is (go outcome.issued issued_first)
    where
      go : (issued : Option Choice) → IfSome issued (λ choice. IsInFirstBox case (choice_data choice))
          → IfSome issued (λ choice. IsSomeAnd (option_map (λ c. cost_of case (choice_data c)) issued) (CostsAtMost case.study case.currents (choice_data choice)))
      go None first = tt
      go (Some choice) first = costs_at_most case (choice_data choice) (set_terms case (choice_data choice) comes.fits first)

  -- the bound
  proved : IsProved case is.first outcome.bound
  proved = holds_proves case is.first comes.reached.state.tree outcome.bound comes.fits (first_box_fits case is.first is.is_first) is.sound.leaves is.holds

  in_first : (other : Settings) → IsAllowed case.study case.currents other → IsInFirstBox case other
  in_first = allowed_in_first_box case

  pub below_all : IfSome outcome.bound (IsBelowAll case.study case.currents)
  below_all = go outcome.bound proved
    where
      go : (b : Option ℕ) → IsProved case is.first b → IfSome b (IsBelowAll case.study case.currents)
      go None proves = tt
      go (Some low) proves = λ other allows. proves other (first_box_holds case is.first other is.is_first (in_first other allows)) allows

  pub none_without_bound : outcome.bound ≡ None → (other : Settings) → ¬ (IsAllowed case.study case.currents other)
  none_without_bound none other allows =
      let proves : IsProved case is.first None = subst (IsProved case is.first) none proved in
      proves other (first_box_holds case is.first other is.is_first (in_first other allows)) allows

  bound_there : is_some outcome.bound ≡ not (has_no_settings comes.reached.state.tree)
  bound_there = holds_some case is.first comes.reached.state.tree outcome.bound is.holds

  -- ---- endings

  -- the settings that are issued have a cost
  pub cost_there : is_some outcome.cost ≡ is_some outcome.issued
  cost_there = rw cost_is (go outcome.issued)
    where
      go : (issued : Option Choice) → is_some (option_map (λ choice. cost_of case (choice_data choice)) issued) ≡ is_some issued
      go None = refl
      go (Some choice) = refl

  -- if no leaf has a bound, nothing is issued
  nothing_issued : outcome.bound ≡ None → outcome.issued ≡ None
  nothing_issued none = go outcome.issued allowed
    where
      go : (issued : Option Choice) → IfSome issued (λ choice. IsAllowed case.study case.currents (choice_data choice)) → issued ≡ None
      go None allows = refl
      go (Some choice) allows = absurd (none_without_bound none (choice_data choice) allows)

  no_bound : outcome.ending ≡ NoSettings → outcome.bound ≡ None
  no_bound ends = go outcome.bound (bound_there ∙ ap not (none_asks _ _ _ _ _ (is.ending ∙ ap Some ends)))
    where
      go : (b : Option ℕ) → is_some b ≡ false → b ≡ None
      go None there = refl
      go (Some low) there = let no : ⊥ = cc in absurd no

  -- what each ending says
  close : outcome.ending ≡ Closed → (cost : ℕ) × (low : ℕ) × (outcome.cost ≡ Some cost) × (outcome.bound ≡ Some low) × (cost ≤ low + comes.gap)
  close ends = close_says outcome.bound outcome.cost comes.gap (closed_asks _ _ _ _ _ (is.ending ∙ ap Some ends))

  pub closed_says : outcome.ending ≡ Closed → IsClosed comes.gap outcome
  closed_says ends =
      let says = close ends in
      record {
        issued = sym cost_there ∙ ap is_some says.2;
        cost = says.0;
        bound = says.1;
        is_cost = says.2;
        is_bound = says.3;
        close = says.4;
      }

  pub none_says : outcome.ending ≡ NoSettings → HasNoSettings case outcome
  none_says ends = record {
    none_allowed = none_without_bound (no_bound ends);
    none_issued = nothing_issued (no_bound ends);
    leaves = ap has_no_settings is.tree ∙ none_asks _ _ _ _ _ (is.ending ∙ ap Some ends);
  }

  bound_at_spent : outcome.ending ≡ BudgetSpent → is_some outcome.bound ≡ true
  bound_at_spent ends = bound_there ∙ ap not (spent_asks _ _ _ _ _ (is.ending ∙ ap Some ends)).0

  pub spent_says : outcome.ending ≡ BudgetSpent → IsSpent asked.budget outcome
  spent_says ends =
      let asks = both _ _ (spent_asks _ _ _ _ _ (is.ending ∙ ap Some ends)).1 in
      let all : boxes comes.reached.state.tree ≡ asked.budget = (Decides-eqb (boxes comes.reached.state.tree) asked.budget).0 asks.1 in
      record {
        boxes_told = is.boxes ∙ all;
        boxes_worked = ap boxes is.tree ∙ all;
        box_open = ap has_open_leaf is.tree ∙ asks.0;
        bound_there = bound_at_spent ends;
      }

  hair_says : (place : HairPlace) → IsHairPlace case is.first comes.reached.state.tree place → IsHair case outcome place
  hair_says place at = record {
    box = is.first;
    is_first_box = is.is_first;
    first = subst (λ (t : Tree). IsFirstHair case is.first t place.row (choice_data place.choice)) (sym is.tree) at.is_first;
    met = at.loose;
    is_row = at.is_row;
    unmet = at.unmet;
    near = row_near case (choice_data place.choice) (row_at case place.row) comes.fits at.first_box (at_number case place.row at.is_row);
  }

  asks_of_hairline : outcome.ending ≡ Hairline
      → (has_no_settings comes.reached.state.tree ≡ false) × (is_close outcome.bound outcome.cost comes.gap ≡ false)
      × ((has_hair comes.reached.state.tree && not (has_open_leaf comes.reached.state.tree)) ≡ true)
  asks_of_hairline ends = hairline_asks _ _ _ _ _ (is.ending ∙ ap Some ends)

  bound_at_hairline : outcome.ending ≡ Hairline → is_some outcome.bound ≡ true
  bound_at_hairline ends = bound_there ∙ ap not (asks_of_hairline ends).0

  pub hairline_says : outcome.ending ≡ Hairline → IsHairline case comes.gap outcome
  hairline_says ends = go outcome.hair outcome.bound refl refl (is.hair_there ends) is.hair (bound_at_hairline ends)
    where
      go : (place : Option HairPlace) (low : Option ℕ) → outcome.hair ≡ place → outcome.bound ≡ low → IsSomeAnd place (λ hair. ⊤)
          → IfSome place (IsHairPlace case is.first comes.reached.state.tree) → is_some low ≡ true → IsHairline case comes.gap outcome
      go None low of_hair of_bound there is_place bounded = absurd there
      go (Some hair) None of_hair of_bound there is_place bounded = let no : ⊥ = cc in absurd no
      go (Some hair) (Some low) of_hair of_bound there is_place bounded =
          let asks = asks_of_hairline ends in
          record {
            none_open = ap has_open_leaf is.tree ∙ is_not _ (both _ _ asks.2).1;
            bound = low;
            is_bound = of_bound;
            apart = apart_says low outcome.cost comes.gap (subst (λ (b : Option ℕ). is_close b outcome.cost comes.gap ≡ false) of_bound asks.1);
            place = hair;
            is_place = of_hair;
            hair = hair_says hair is_place;
          }

  -- ---- it can be printed and written

  shown_cost : CostGoesWith outcome.ending outcome.cost
  shown_cost = go outcome.ending refl
    where
      go : (ending : Ending) → outcome.ending ≡ ending → CostGoesWith ending outcome.cost
      go Closed ends = ap is_some (close ends).2
      go NoSettings ends = cost_there ∙ ap is_some (nothing_issued (no_bound ends))
      go BudgetSpent ends = tt
      go Hairline ends = tt

  shown_bound : BoundGoesWith outcome.ending outcome.bound
  shown_bound = go outcome.ending refl
    where
      go : (ending : Ending) → outcome.ending ≡ ending → BoundGoesWith ending outcome.bound
      go Closed ends = ap is_some (close ends).3
      go NoSettings ends = ap is_some (no_bound ends)
      go BudgetSpent ends = bound_at_spent ends
      go Hairline ends = bound_at_hairline ends

  short : IsShort outcome.cost
  short = rw cost_is (go outcome.issued issued_first)
    where
      go : (issued : Option Choice) → IfSome issued (λ choice. IsInFirstBox case (choice_data choice)) → IsShort (option_map (λ choice. cost_of case (choice_data choice)) issued)
      go None first = tt
      go (Some choice) first = cost_small case (choice_data choice) comes.fits first

  on_steps : IfSome (option_map choice_data outcome.issued) (AreOnSteps case.study)
  on_steps = go outcome.issued issued_first
    where
      go : (issued : Option Choice) → IfSome issued (λ choice. IsInFirstBox case (choice_data choice)) → IfSome (option_map choice_data issued) (AreOnSteps case.study)
      go None first = tt
      go (Some choice) first = first.on_steps

  same_there : is_some (option_map choice_data outcome.issued) ≡ is_some outcome.issued
  same_there = go outcome.issued
    where
      go : (issued : Option Choice) → is_some (option_map choice_data issued) ≡ is_some issued
      go None = refl
      go (Some choice) = refl

  placed : (Q : HairPlace → Type 0) → ((hair : HairPlace) → IsHairPlace case is.first comes.reached.state.tree hair → Q hair) → IfSome outcome.hair Q
  placed Q shows = go outcome.hair is.hair
    where
      go : (place : Option HairPlace) → IfSome place (IsHairPlace case is.first comes.reached.state.tree) → IfSome place Q
      go None is_place = tt
      go (Some hair) is_place = shows hair is_place

  pub shown : IsShown case outcome
  shown = record {
    sheet = record {
      cost_goes = shown_cost;
      bound_goes = shown_bound;
      cost_short = short;
      bound_short = holds_short case is.first comes.reached.state.tree outcome.bound is.holds;
      issued = same_there ∙ sym cost_there;
      on_steps = on_steps;
    };
    first_box = placed (λ hair. IsInFirstBox case (choice_data hair.choice)) (λ hair at. at.first_box);
    is_row = placed (λ hair. hair.row < length (rows_in case)) (λ hair at. at.is_row);
  }

-- ---- statuses

-- what ending a status is of
pub spent_of : (ending : Ending) (issued : Bool) → 4 ≤ ending_status ending issued → ending_status ending issued ≤ 5 → ending ≡ BudgetSpent
spent_of Closed issued from to = absurd (omega (arith, from))
spent_of NoSettings issued from to = absurd (omega (arith, from))
spent_of BudgetSpent issued from to = refl
spent_of Hairline true from to = absurd (omega (arith, to))
spent_of Hairline false from to = absurd (omega (arith, to))

pub hairline_of : (ending : Ending) (issued : Bool) → 6 ≤ ending_status ending issued → ending ≡ Hairline
hairline_of Closed issued from = absurd (omega (arith, from))
hairline_of NoSettings issued from = absurd (omega (arith, from))
hairline_of BudgetSpent true from = absurd (omega (arith, from))
hairline_of BudgetSpent false from = absurd (omega (arith, from))
hairline_of Hairline issued from = refl
