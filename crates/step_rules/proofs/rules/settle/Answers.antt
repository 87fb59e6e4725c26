use Rattle.std.specs.Prelude.{Option, Some, None, IsSome, IsNone}
use Rattle.std.specs.Option.{option_map}
use Rattle.std.specs.List.{All}
use Rattle.std.proofs.Common.{ℕ, refl, subst}
use Rattle.coord_model.specs.Choice.{Settings, choice_data}
use Rattle.margin_rows.specs.Case.{rows_in}
use Rattle.margin_rows.specs.Margin.{MeetsStrictly}
use Rattle.margin_rows.proofs.LowestSettings.{lowest_first}
use Rattle.step_rules.specs.Issuing.{latest, settings_of}
use Rattle.step_rules.specs.Rules.{single_closed, single_open}
use Rattle.step_rules.specs.Usable.{leaf_weights}
use Rattle.step_rules.proofs.RuleLaws.{failed, not_plain, plain_leaf, unmet_row}
use Rattle.step_rules.proofs.rules.settle.Goals as goal

pub returns-then-reaches-clause-handled : goal.returns-then-reaches-clause-handled
returns-then-reaches-clause-handled c box own tightens =
    let case = c.args.inst.now in
    let tight = c.args.tight.now.ranges in
    let later = latest c.args.issued.now c.offer-new.result in
    plain_leaf case c.args.gap box own (leaf_weights c.plain_weights.result) (settings_of c.args.issued.now) later c.plain_weights.ensures
    (single_closed tightens (record { one = c.requires.one; offer = option_map choice_data c.in_ok-choice.choice; least = c.in_ok-choice.ensures.exact; now = c.offer-new.ensures.exact }) (record {
      plain = c.plain.result;
      exact = c.plain.ensures case tight c.requires.tight.parts;
      reaches = (c.reaches.ensures case later c.latest_cost.ensures).0 c.if-reaches.true;
    }))

pub first_unmet-requires : goal.first_unmet-requires
first_unmet-requires c = rw c.in_ok-lowest.ensures.exact (lowest_first c.args.inst.now c.args.tight.now.ranges c.requires.tight.fits c.requires.tight.tight.steps)

found : (o : Option ℕ) → ¬ (IsNone o) → IsSome o
found None some = absurd (some refl)
found (Some row) some = refl

pub unwrap-row-requires : goal.unwrap-row-requires
unwrap-row-requires c =
    let case = c.args.inst.now in
    let tight = c.args.tight.now.ranges in
    let later = latest c.args.issued.now c.offer-new.result in
    let unmet = unmet_row case c.args.gap c.plain.result tight (settings_of c.args.issued.now) later (option_map choice_data c.in_ok-choice.choice) c.first_unmet.ensures.fits c.requires.tight.fits
    c.requires.tight.tight.steps c.requires.one c.requires.gap (c.plain.ensures case tight c.requires.tight.parts) c.in_ok-choice.ensures.exact c.offer-new.ensures.exact
    (failed c.reaches.result c.if-reaches.false (c.reaches.ensures case later c.latest_cost.ensures)) in
    found c.first_unmet.result (λ none. unmet (subst (λ (s : Settings). All (MeetsStrictly case s) (rows_in case)) c.in_ok-lowest.ensures.exact (c.first_unmet.ensures.met none)))

pub returns-clause-handled : goal.returns-clause-handled
returns-clause-handled c box own tightens =
    let case = c.args.inst.now in
    let tight = c.args.tight.now.ranges in
    let later = latest c.args.issued.now c.offer-new.result in
    single_open tightens (record { one = c.requires.one; offer = option_map choice_data c.in_ok-choice.choice; least = c.in_ok-choice.ensures.exact; now = c.offer-new.ensures.exact })
    (not_plain case c.args.gap tight later c.plain.result c.requires.tight.fits c.requires.tight.tight.steps (c.plain.ensures case tight c.requires.tight.parts)
    (failed c.reaches.result c.if-reaches.false (c.reaches.ensures case later c.latest_cost.ensures)))
    (rw (c.in_ok-lowest.ensures.exact, c.unwrap-row.ensures) at c.first_unmet.ensures.unmet)
