-- The first hair leaf of a tree whose nodes are right.
use Rattle.std.specs.Option.{MatchOption}
use Rattle.std.proofs.Common.{◌≡◌, ℕ, ◌<◌, ◌⊎◌, length, inl, inr, Option, Some, None, false, refl, sym, ap, ◌∙◌, subst}
use Rattle.std.proofs.lemmas.Bool.{or_from}
use Rattle.coord_model.specs.Choice.{Settings, choice_data}
use Rattle.coord_model.specs.Tree.{Tree, bound, empty, hair, open_leaf, split, void}
use Rattle.margin_rows.specs.Box.{Box, FitsBox}
use Rattle.margin_rows.specs.Case.{Case, row_at, rows_in}
use Rattle.margin_rows.specs.FirstBox.{IsInFirstBox}
use Rattle.margin_rows.specs.Halves.{AreHalves}
use Rattle.margin_rows.specs.Lowest.{HasOnePickup, lowest_of}
use Rattle.margin_rows.specs.Margin.{MeetsStrictly}
use Rattle.margin_rows.proofs.LowestSettings.{lowest_first}
use Rattle.box_range.specs.Drops.{Drops, IsTight, MeetsAllLoosely}
use Rattle.box_range.proofs.TightLaws.{lowest_loosely}
use Rattle.cert_tree.specs.Endings.{has_hair}
use Rattle.cert_tree.specs.NodeRules.{IsRight}
use Rattle.cert_tree.proofs.TightBoxes.{tight_fits, tight_only}
use Rattle.cert_tree.proofs.TreeLaws.{halves_fit, same_halves}
use Rattle.branch_bound.specs.Facts.{Every}
use Rattle.branch_bound.specs.HairLeaf.{IsFirstHair}
use Rattle.branch_bound.specs.declared.outcome.HairPlace.{HairPlace}

-- what is left of the box of a split that is right is tight
pub split_tight : (case : Case) (box left : Box) (relay at : ℕ) (below above tree : Tree) → tree ≡ split relay at below above → Every case (IsRight case) box tree
    → ((other : Box) → Drops case box other → IsTight case other → left ≡ other) → IsTight case left
split_tight case box left relay at below above tree is right only =
    let node = (subst (λ (t : Tree). Every case (IsRight case) box t) is right).2 in
    subst (IsTight case) (sym (only node.asks.0 node.asks.1.led node.asks.1.no_more)) node.asks.1.no_more

-- the first hair leaf of a split is that of its low half, or else that of its high half
pub split_hair : (case : Case) (box tight low high : Box) (relay at row : ℕ) (below above tree : Tree) (settings : Settings) → tree ≡ split relay at below above → Drops case box tight → IsTight case tight
    → AreHalves tight relay at low high → IsFirstHair case low below row settings ⊎ ((has_hair below ≡ false) × IsFirstHair case high above row settings) → IsFirstHair case box tree row settings
split_hair case box tight low high relay at row below above tree settings is drops no_more halves there =
    subst (λ (t : Tree). IsFirstHair case box t row settings) (sym is) (low, high, record { tight = tight; is_tight = record { led = drops; no_more = no_more }; halves = halves }, there)

-- settings at the first hair leaf of a tree: they lie in the first box, loosely meet every row, and do not strictly meet that of the leaf
pub record IsHairSettings (case : Case) (row : ℕ) (settings : Settings) : Type 0 where
  pub is_row : row < length (rows_in case)
  pub first_box : IsInFirstBox case settings
  pub loose : MeetsAllLoosely case settings
  pub unmet : ¬ (MeetsStrictly case settings (row_at case row))

pub hair_settings : (case : Case) (box : Box) (tree : Tree) (row : ℕ) (settings : Settings) → FitsBox case box → Every case (IsRight case) box tree → IsFirstHair case box tree row settings → IsHairSettings case row settings
hair_settings case box (split relay at below above) row settings fits (low, high, node, halves, all_low, all_high) (l, h, tight_halves, there) =
    let same = same_halves case box relay at below above low high l h node halves tight_halves in
    let fit = halves_fit case box relay at below above l h fits node tight_halves in
    elim there as (λ _. IsHairSettings case row settings) [
      | inl in_low ↦ hair_settings case l below row settings fit.0 (subst (λ (b : Box). Every case (IsRight case) b below) same.0 all_low) in_low
      | inr in_high ↦ hair_settings case h above row settings fit.1 (subst (λ (b : Box). Every case (IsRight case) b above) same.1 all_high) in_high.1
    ]
hair_settings case box empty row settings fits node gone = absurd gone
hair_settings case box (void weights) row settings fits node gone = absurd gone
hair_settings case box (bound lambda weights) row settings fits node gone = absurd gone
hair_settings case box (hair leaf_row) row settings fits node found =
    let same_row = found.0 in
    let tight = found.1.0 in
    let is_tight = found.1.1 in
    let is_lowest = found.1.2 in
    let same = tight_only case box node.asks.0 tight node.asks.1 is_tight in
    let fit = tight_fits case box tight fits is_tight in
    let one = subst HasOnePickup same node.asks.2.one_pickup in
    let unmet = subst (λ (b : Box). ¬ (MeetsStrictly case (lowest_of b) (row_at case leaf_row))) same node.asks.2.unmet in
    subst (λ (s : Settings). IsHairSettings case row s) (sym is_lowest) (record {
      is_row = subst (λ (r : ℕ). r < length (rows_in case)) same_row (node.names.hair leaf_row refl);
      first_box = lowest_first case tight fit is_tight.no_more.steps;
      loose = lowest_loosely case tight fit is_tight.no_more one;
      unmet = subst (λ (r : ℕ). ¬ (MeetsStrictly case (lowest_of tight) (row_at case r))) same_row unmet;
    })
hair_settings case box (open_leaf lambda weights) row settings fits node gone = absurd gone

-- a split whose low half has no hair leaf
pub high_hair : (case : Case) (box tight low high : Box) (relay at : ℕ) (below above tree : Tree) (found : Option HairPlace) → tree ≡ split relay at below above → Drops case box tight → IsTight case tight
    → AreHalves tight relay at low high → has_hair below ≡ false
    → MatchOption found (has_hair above ≡ false) (λ place. IsFirstHair case high above place.row (choice_data place.choice))
    → MatchOption found (has_hair tree ≡ false) (λ place. IsFirstHair case box tree place.row (choice_data place.choice))
high_hair case box tight low high relay at below above tree None is drops no_more halves none there = ap has_hair is ∙ or_from (has_hair below) (has_hair above) none there
high_hair case box tight low high relay at below above tree (Some place) is drops no_more halves none there =
    split_hair case box tight low high relay at place.row below above tree (choice_data place.choice) is drops no_more halves (inr (none, there))
