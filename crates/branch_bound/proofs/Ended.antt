-- A done search has an ending.
use Rattle.std.specs.Prelude.{nat_lt, ◌==◌, ⊤, if◌then◌else◌}
use Rattle.std.specs.Option.{IsSomeAnd, option_map}
use Rattle.std.proofs.Common.{◌≡◌, ℕ, ◌+◌, ◌≤◌, ◌⊎◌, inl, inr, Bool, true, false, ◌&&◌, ◌||◌, not, Option, Some, None, arith, refl, sym, ◌∙◌, subst}
use Rattle.std.proofs.lemmas.Bool.{and_cases, eq-eqb, le-leb, le-ltb, not_from_false, or_parts, true_from_ne_false, true≢false}
use Rattle.coord_model.specs.Choice.{Settings}
use Rattle.coord_model.specs.Tree.{Tree, bound, empty, hair, open_leaf, root, split, void}
use Rattle.coord_model.specs.declared.choice.Ending.{Ending}
use Rattle.coord_model.specs.declared.choice.Ending.TheVariants.{BudgetSpent, Closed, Hairline, NoSettings}
use Rattle.coord_model.specs.declared.tree.NodeLine.TheVariants as Line
use Rattle.margin_rows.specs.Box.{Box, FitsBox}
use Rattle.margin_rows.specs.Case.{Case}
use Rattle.margin_rows.specs.Price.{cost_of}
use Rattle.cert_tree.specs.Endings.{boxes, ending_of, has_hair, has_no_settings, has_open_leaf, is_close}
use Rattle.cert_tree.specs.Holding.{Holds, lower}
use Rattle.step_rules.specs.Offers.{Reaches}
use Rattle.branch_bound.specs.Facts.{Every, IsFair}
use Rattle.branch_bound.specs.Machine.{IsDone, State}
use Rattle.cert_tree.specs.Judgement.{Gives}
use Rattle.cert_tree.proofs.TreeLaws.{gives_only, halves_fit, parts, same_halves}

-- the bound, if there is one, reaches the cutoff
abbrev pub BoundReaches : Case → ℕ → Option Settings → Option ℕ → Type 0
BoundReaches case gap issued None = ⊤
BoundReaches case gap issued (Some b) = Reaches case gap issued b

lower_reaches : (case : Case) (gap : ℕ) (issued : Option Settings) (a b : Option ℕ) → BoundReaches case gap issued a → BoundReaches case gap issued b → BoundReaches case gap issued (lower a b)
lower_reaches case gap issued None b x y = y
lower_reaches case gap issued (Some a) None x y = x
lower_reaches case gap None (Some a) (Some b) x y = absurd x
lower_reaches case gap (Some held) (Some a) (Some b) x y = omega (arith, x, y)

-- without open leaves and hair leaves the bound of a fair tree reaches the cutoff
reaching : (case : Case) (gap : ℕ) (issued : Option Settings) (box : Box) (tree : Tree) (b : Option ℕ) → FitsBox case box → Every case (IsFair case gap issued) box tree → Holds case box tree b
    → has_open_leaf tree ≡ false → has_hair tree ≡ false → BoundReaches case gap issued b
reaching case gap issued box (split relay at below above) b fits (low, high, node, halves, all_low, all_high) holds no_open no_hair =
    let p = parts case box (split relay at below above) b holds in
    let same = same_halves case box relay at below above low high p.low p.high p.right halves p.halves in
    let fit = halves_fit case box relay at below above p.low p.high fits p.right p.halves in
    let open_parts = or_parts (has_open_leaf below) (has_open_leaf above) no_open in
    let hair_parts = or_parts (has_hair below) (has_hair above) no_hair in
    subst (BoundReaches case gap issued) (sym p.is)
    (lower_reaches case gap issued p.low_bound p.high_bound
    (reaching case gap issued p.low below p.low_bound fit.0 (subst (λ (x : Box). Every case (IsFair case gap issued) x below) same.0 all_low) p.low_holds open_parts.0 hair_parts.0)
    (reaching case gap issued p.high above p.high_bound fit.1 (subst (λ (x : Box). Every case (IsFair case gap issued) x above) same.1 all_high) p.high_holds open_parts.1 hair_parts.1))
reaching case gap issued box empty b fits node holds no_open no_hair = subst (BoundReaches case gap issued) (sym (parts case box empty b holds).gives) tt
reaching case gap issued box (void weights) b fits node holds no_open no_hair = subst (BoundReaches case gap issued) (sym (parts case box (void weights) b holds).gives) tt
reaching case gap issued box (bound lambda weights) b fits node holds no_open no_hair =
    let p = parts case box (bound lambda weights) b holds in
    let owed = node.owes in
    let given : Gives case box weights (Line.Bound lambda) (Some owed.bound) = (owed.tight, owed.bound, owed.is_tight, record { value = owed.gives.value; dual = owed.gives.dual; is = owed.gives.exact }, refl) in
    subst (BoundReaches case gap issued) (gives_only case box (root (bound lambda weights)) (Line.Bound lambda) (Some owed.bound) b fits node.right.asks given p.gives) owed.reaches
reaching case gap issued box (hair row) b fits node holds no_open no_hair = absurd (true≢false no_hair)
reaching case gap issued box (open_leaf lambda weights) b fits node holds no_open no_hair = absurd (true≢false no_open)

lower_some : (a b : Option ℕ) → IsSomeAnd a (λ n. ⊤) ⊎ IsSomeAnd b (λ n. ⊤) → IsSomeAnd (lower a b) (λ n. ⊤)
lower_some None b (inl gone) = absurd gone
lower_some None b (inr some) = some
lower_some (Some a) None some = tt
lower_some (Some a) (Some b) some = tt

-- a tree with a leaf that is neither `Empty` nor `Void` has a bound
has_bound : (case : Case) (box : Box) (tree : Tree) (b : Option ℕ) → Holds case box tree b → has_no_settings tree ≡ false → IsSomeAnd b (λ n. ⊤)
has_bound case box (split relay at below above) b holds some =
    let p = parts case box (split relay at below above) b holds in
    subst (λ (o : Option ℕ). IsSomeAnd o (λ n. ⊤)) (sym p.is) (elim (and_cases (has_no_settings below) (has_no_settings above) some) as (λ _. IsSomeAnd (lower p.low_bound p.high_bound) (λ n. ⊤)) [
      | inl low ↦ lower_some p.low_bound p.high_bound (inl (has_bound case p.low below p.low_bound p.low_holds low))
      | inr high ↦ lower_some p.low_bound p.high_bound (inr (has_bound case p.high above p.high_bound p.high_holds high))
    ])
has_bound case box empty b holds some = absurd (true≢false some)
has_bound case box (void weights) b holds some = absurd (true≢false some)
has_bound case box (bound lambda weights) b holds some = subst (λ (o : Option ℕ). IsSomeAnd o (λ n. ⊤)) (sym (parts case box (bound lambda weights) b holds).gives.4) tt
has_bound case box (hair row) b holds some = subst (λ (o : Option ℕ). IsSomeAnd o (λ n. ⊤)) (sym (parts case box (hair row) b holds).gives.4) tt
has_bound case box (open_leaf lambda weights) b holds some = subst (λ (o : Option ℕ). IsSomeAnd o (λ n. ⊤)) (sym (parts case box (open_leaf lambda weights) b holds).gives.2) tt

-- a bound that reaches the cutoff is close to the cost
close : (case : Case) (gap : ℕ) (issued : Option Settings) (b : Option ℕ) → IsSomeAnd b (λ n. ⊤) → BoundReaches case gap issued b → is_close b (option_map (cost_of case) issued) gap ≡ true
close case gap issued None some reaches = absurd some
close case gap None (Some b) some reaches = absurd reaches
close case gap (Some held) (Some b) some reaches = le-leb (cost_of case held) (b + gap) reaches

-- of tests in an order one is true
first_true : (over none_there near open_spent hair_left : Bool) → over ≡ false → (none_there || (near || (open_spent || hair_left))) ≡ true
    → (e : Ending) × ((if over then None else if none_there then Some NoSettings else if near then Some Closed else if open_spent then Some BudgetSpent else if hair_left then Some Hairline else None) ≡ Some e)
first_true true n c p q within some = absurd (true≢false within)
first_true false true c p q within some = (NoSettings, refl)
first_true false false true p q within some = (Closed, refl)
first_true false false false true q within some = (BudgetSpent, refl)
first_true false false false false true within some = (Hairline, refl)
first_true false false false false false within some = absurd (true≢false (sym some))

-- a done state that is sound has an ending
pub ended : (case : Case) (first : Box) (gap budget : ℕ) (state : State) (b : Option ℕ) → FitsBox case first → Every case (IsFair case gap state.issued) first state.tree → boxes state.tree ≤ budget → IsDone budget state
    → Holds case first state.tree b → (e : Ending) × (ending_of state.tree b (option_map (cost_of case) state.issued) gap budget ≡ Some e)
ended case first gap budget state b fits fair within done holds =
    first_true (nat_lt budget (boxes tree)) (has_no_settings tree) (is_close b (option_map (cost_of case) state.issued) gap) (has_open_leaf tree && (boxes tree == budget)) (has_hair tree && not (has_open_leaf tree))
    (le-ltb budget (boxes tree) within) (true_from_ne_false _ (λ all.
    let first_parts = or_parts (has_no_settings tree) _ all in
    let second_parts = or_parts (is_close b (option_map (cost_of case) state.issued) gap) _ first_parts.1 in
    let third_parts = or_parts (has_open_leaf tree && (boxes tree == budget)) _ second_parts.1 in
    no_way first_parts.0 second_parts.0 third_parts.0 third_parts.1))
  where
    tree : Tree
    tree = state.tree

    no_way : has_no_settings tree ≡ false → is_close b (option_map (cost_of case) state.issued) gap ≡ false → (has_open_leaf tree && (boxes tree == budget)) ≡ false → (has_hair tree && not (has_open_leaf tree)) ≡ false → ⊥
    no_way some far not_spent no_hair =
        let open_gone : has_open_leaf tree ≡ false = elim done [
          | inl gone ↦ gone
          | inr spent ↦ elim (and_cases (has_open_leaf tree) (boxes tree == budget) not_spent) [
            | inl gone ↦ gone
            | inr unspent ↦ absurd (true≢false (sym (eq-eqb (boxes tree) budget spent) ∙ unspent))
          ]
        ] in
        let hair_gone : has_hair tree ≡ false = elim (and_cases (has_hair tree) (not (has_open_leaf tree)) no_hair) [
          | inl gone ↦ gone
          | inr stands ↦ absurd (true≢false (sym (not_from_false (has_open_leaf tree) open_gone) ∙ stands))
        ] in
        true≢false (sym (close case gap state.issued b (has_bound case first tree b holds some) (reaching case gap state.issued first tree b fits fair holds open_gone hair_gone)) ∙ far)
