use Rattle.std.specs.Prelude.{slice_index}
use Rattle.std.proofs.Common.{◌∙◌, ℕ, Option, ap, inl, inr, subst, sym}
use Rattle.coord_model.specs.Choice.{choice_data}
use Rattle.coord_model.specs.declared.study.Row.{Row}
use Rattle.coord_why.proofs.Asked.{asked_read, interval_raise, is_asked, latest_read, least_raise, not_most}
use Rattle.coord_why.proofs.climb.raise_for.Goals as goal
use Rattle.margin_rows.specs.Case.{row_at}
use Rattle.margin_rows.specs.Least.{IsLeastStepOf}

pub unwrap-step-requires : goal.unwrap-step-requires
unwrap-step-requires c =
    let case = c.args.inst.now in
    let settings = choice_data c.args.choice.now in
    let climb = c.args.climb.now in
    is_asked case settings climb c.args.row c.requires.loose c.requires.climb c.requires.row c.loose_step.result
    (asked_read case settings climb c.args.row c.requires.loose c.requires.climb c.requires.row c.as_slice.result.now c.row-at.result c.from-primary.result c.index.result.now c.loose_step.result
    c.as_slice.ensures.value c.row-at.ensures.exact c.from-primary.ensures c.index.ensures c.loose_step.ensures.exact)

pub returns-in-Interval : goal.returns-in-Interval
returns-in-Interval c =
    let case = c.args.inst.now in
    let settings = choice_data c.args.choice.now in
    let climb = c.args.climb.now in
    let row = c.args.row in
    let asked = asked_read case settings climb row c.requires.loose c.requires.climb c.requires.row c.as_slice.result.now c.row-at.result c.from-primary.result c.index.result.now c.loose_step.result
    c.as_slice.ensures.value c.row-at.ensures.exact c.from-primary.ensures c.index.ensures c.loose_step.ensures.exact in
    let P : Option ℕ → Type 0 = λ found. IsLeastStepOf case climb.low.pickup.items (row_at case row) (slice_index climb.low.dial.items (row_at case row).primary) found in
    interval_raise case settings climb row c.requires.loose c.requires.climb c.requires.row c.requires.short c.unwrap-step.result (subst P c.unwrap-step.ensures asked) c.index-in-Interval.result.now c.row-at.result
    c.row-at.ensures.exact c.in-Interval.is
    (latest_read case settings climb row c.requires.loose c.requires.climb c.requires.row c.row-at.result c.from-primary.result c.index-in-Interval.result.now c.row-at.ensures.exact c.from-primary.ensures c.index-in-Interval.ensures)

pub returns-in-Least : goal.returns-in-Least
returns-in-Least c =
    let case = c.args.inst.now in
    let settings = choice_data c.args.choice.now in
    let climb = c.args.climb.now in
    let row = c.args.row in
    let asked = asked_read case settings climb row c.requires.loose c.requires.climb c.requires.row c.as_slice.result.now c.row-at.result c.from-primary.result c.index.result.now c.loose_step.result
    c.as_slice.ensures.value c.row-at.ensures.exact c.from-primary.ensures c.index.ensures c.loose_step.ensures.exact in
    let P : Option ℕ → Type 0 = λ found. IsLeastStepOf case climb.low.pickup.items (row_at case row) (slice_index climb.low.dial.items (row_at case row).primary) found in
    elim c.in-Least.is [
      | inl least ↦ least_raise case settings climb row c.requires.loose c.requires.climb c.requires.row c.requires.short c.unwrap-step.result (subst P c.unwrap-step.ensures asked) c.row-at.result c.row-at.ensures.exact least
      | inr most ↦ absurd (not_most case settings climb row c.requires.loose c.requires.climb c.requires.row c.requires.short (ap (λ (r : Row). r.kind) (sym c.row-at.ensures.exact) ∙ most))
    ]
