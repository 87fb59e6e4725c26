use Rattle.std.specs.Option.{MatchOption}
use Rattle.std.proofs.Common.{◌≡◌, ℕ, Option, refl, sym, subst, false}
use Rattle.coord_model.specs.Tree.{shape}
use Rattle.margin_rows.specs.Box.{Box}
use Rattle.margin_rows.proofs.Spanned.{first_box_fits}
use Rattle.coord_model.specs.Choice.{choice_data}
use Rattle.coord_model.specs.declared.choice.Ending.TheVariants.{Hairline}
use Rattle.branch_bound.specs.HairLeaf.{IsFirstHair}
use Rattle.cert_tree.specs.Endings.{has_hair}
use Rattle.cert_tree.specs.Holding.{Holds}
use Rattle.cert_tree.specs.NodeRules.{IsRight}
use Rattle.branch_bound.specs.Concluding.{end_state}
use Rattle.branch_bound.specs.Facts.{Every}
use Rattle.branch_bound.proofs.Concluded.{fair, hair_shown, hair_stands, passes, priced_first, right, suffices, tree_fits, tree_holds}
use Rattle.branch_bound.proofs.Ended.{ended}
use Rattle.branch_bound.proofs.finish.conclude.Goals as goal

pub bound_and_ending-requires-clause-limits : goal.bound_and_ending-requires-clause-limits
bound_and_ending-requires-clause-limits c = tree_fits c.args.inst.now c.args.gap c.args.budget c.args.boxes c.args.issued (shape c.args.tree) c.requires

pub bound_and_ending-requires-clause-holds : goal.bound_and_ending-requires-clause-holds
bound_and_ending-requires-clause-holds c =
    subst (λ (b : Box). (x : Option ℕ) × Holds c.args.inst.now b (shape c.args.tree) x) (c.in_ok-first.ensures.only c.requires.first c.requires.is_first)
    (tree_holds c.args.inst.now c.args.gap c.args.budget c.args.boxes c.args.issued (shape c.args.tree) c.requires)

pub bound_and_ending-requires-clause-ended : goal.bound_and_ending-requires-clause-ended
bound_and_ending-requires-clause-ended c bound holds =
    let case = c.args.inst.now in
    let same = c.in_ok-first.ensures.only c.requires.first c.requires.is_first in
    rw (c.cost_of-cost.ensures case c.requires.priced)
    (ended case c.requires.first c.args.gap c.args.budget (end_state (shape c.args.tree) c.args.issued) bound (first_box_fits case c.requires.first c.requires.is_first)
    (fair case c.args.gap c.args.budget c.args.boxes c.args.issued (shape c.args.tree) c.requires) c.requires.sound.within c.requires.done (subst (λ (b : Box). Holds case b (shape c.args.tree) bound) (sym same) holds))

pub hair_of-requires-clause-right : goal.hair_of-requires-clause-right
hair_of-requires-clause-right c =
    subst (λ (b : Box). Every c.args.inst.now (IsRight c.args.inst.now) b (shape c.args.tree)) (c.in_ok-first.ensures.only c.requires.first c.requires.is_first)
    (right c.args.inst.now c.args.gap c.args.budget c.args.boxes c.args.issued (shape c.args.tree) c.requires)

pub returns : goal.returns
returns c =
    let case = c.args.inst.now in
    let tree = shape c.args.tree in
    let is = c.requires in
    let same = c.in_ok-first.ensures.only is.first is.is_first in
    let ends = c.in_ok-bound.ensures.ending in
    let Looked : Box → Type 0 = λ b. c.in_ok-bound.ending ≡ Hairline → MatchOption c.in_ok-hair.hair (has_hair tree ≡ false) (λ place. IsFirstHair case b tree place.row (choice_data place.choice)) in
    let looked = subst Looked (sym same) c.in_ok-hair.ensures.hairline in
    record {
      first = is.first;
      is_first = is.is_first;
      sound = is.sound;
      tree = refl;
      issued = c.choice_of.ensures;
      first_box = priced_first case c.args.issued is.priced;
      cost = c.cost_of-cost.ensures case is.priced;
      same_gap = refl;
      same_budget = refl;
      boxes = is.counted;
      fits = tree_fits case c.args.gap c.args.budget c.args.boxes c.args.issued tree is;
      holds = subst (λ (b : Box). Holds case b tree c.in_ok-bound.bound) (sym same) c.in_ok-bound.ensures.bound;
      ending = ends;
      hair = hair_shown case c.args.gap c.args.budget c.args.boxes c.args.issued tree is c.in_ok-hair.hair c.in_ok-bound.ending looked c.in_ok-hair.ensures.none;
      hair_there = λ hairline. hair_stands case c.args.gap c.args.budget c.args.boxes c.args.issued tree is c.in_ok-hair.hair c.in_ok-bound.bound c.cost_of-cost.result c.in_ok-bound.ending ends hairline (looked hairline);
      hair_alone = c.in_ok-hair.ensures.none;
      none_passed = passes case c.args.gap c.args.budget c.args.boxes c.args.issued tree is;
      suffices = suffices case c.args.gap c.args.budget c.args.boxes c.args.issued tree is c.in_ok-bound.bound c.cost_of-cost.result c.in_ok-bound.ending ends;
    }
