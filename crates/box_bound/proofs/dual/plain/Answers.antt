use Rattle.std.specs.Prelude.{ℤ}
use Rattle.std.proofs.Common.{◌≡◌, ◌∙◌, ap, arith, rules, sym}
use Rattle.std.proofs.lemmas.Int.{to_z-of_z}
use mir.Syntax.{w128}
use mir.Val.{SFits}
use Rattle.margin_rows.proofs.Boxed.{allowed_meets}
use Rattle.box_bound.specs.LowerBound.{bound_at}
use Rattle.box_bound.proofs.Bounds.{bound_rises}
use Rattle.box_bound.proofs.LowestBounds.{low_bound}
use Rattle.box_bound.proofs.dual.plain.Goals as goal
use Rattle.box_bound.proofs.dual.plain.Goals.{After-bound_of}

-- the result is the bound of the value
read : (c : After-bound_of) → c.bound_of.result ≡ bound_at c.value.result 1
read c = let fits : SFits w128 c.value.result = search rules in rw (to_z-of_z w128 c.value.result fits) at c.bound_of.ensures

pub returns-clause-only : goal.returns-clause-only
returns-clause-only c = λ other is. is.2 ∙ ap (λ (z : ℤ). bound_at z 1) (c.value.ensures.only is.0 is.1) ∙ sym (read c)

pub returns-clause-rises : goal.returns-clause-rises
returns-clause-rises c = λ outer other within is. rw (read c, is.2) (bound_rises is.0 c.value.result 1 (omega arith) (c.value.ensures.rises outer is.0 within is.1))

pub returns-clause-lowest : goal.returns-clause-lowest
returns-clause-lowest c = λ one. read c ∙ low_bound c.args.inst.now c.args.ranges.now c.value.ensures.limits c.requires.fits c.requires.steps one c.value.result c.value.ensures.exact

pub returns-clause-at_least : goal.returns-clause-at_least
returns-clause-at_least c settings lies allowed = rw (read c) (c.value.ensures.costs (omega arith) settings lies (allowed_meets c.args.inst.now settings c.value.ensures.limits allowed))
