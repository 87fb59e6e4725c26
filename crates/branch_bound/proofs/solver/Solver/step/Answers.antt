use Rattle.std.proofs.Common.{inl, subst, sym}
use Rattle.search_tree.specs.Plan.{plan_of}
use Rattle.branch_bound.specs.Machine.{IsDone}
use Rattle.branch_bound.specs.Searching.{Search, state_of}
use Rattle.branch_bound.proofs.Starting.{open_listed}
use Rattle.branch_bound.specs.Advancing.{HasNotFallen, IsStepOf}
use Rattle.branch_bound.specs.Leading.{TurnsFirst}
use Rattle.branch_bound.proofs.Leading.{not_fallen, turns_first}
use Rattle.branch_bound.proofs.Stepped.{as_seen, next_is, next_step, room}
use Rattle.branch_bound.proofs.solver.Solver.step.Goals as goal

-- the search goes on
abbrev GoesOn : Search → Type 0
GoesOn search = ¬ (IsDone search.budget (state_of search))

pub advance-requires-clause-open : goal.advance-requires-clause-open
advance-requires-clause-open g c = open_listed (plan_of c.self.inside.tree) (λ gone. subst GoesOn (sym c.self.view_is) c.requires.goes_on (inl gone))

pub advance-requires-clause-room : goal.advance-requires-clause-room
advance-requires-clause-room g c = room _ c.self.invariant (subst GoesOn (sym c.self.view_is) c.requires.goes_on)

pub invariant_of-self-2 : goal.invariant_of-self-2
invariant_of-self-2 g c = next_is _ c.advance.new.issued c.advance.new.tree c.self.invariant (subst GoesOn (sym c.self.view_is) c.requires.goes_on) c.in_ok-advance.ensures.advanced

pub returns-clause-stepped : goal.returns-clause-stepped
returns-clause-stepped g c =
    as_seen IsStepOf c.args.self.now _ _ c.self.view_is
    (next_step _ c.advance.new.issued c.advance.new.tree c.self.invariant (subst GoesOn (sym c.self.view_is) c.requires.goes_on) c.in_ok-advance.ensures.advanced)

pub returns-clause-first : goal.returns-clause-first
returns-clause-first g c =
    as_seen TurnsFirst c.args.self.now _ _ c.self.view_is
    (turns_first _ c.advance.new.issued c.advance.new.tree c.self.invariant (subst GoesOn (sym c.self.view_is) c.requires.goes_on) c.in_ok-advance.ensures.advanced)

pub returns-clause-rises : goal.returns-clause-rises
returns-clause-rises g c =
    as_seen HasNotFallen c.args.self.now _ _ c.self.view_is
    (not_fallen _ c.advance.new.issued c.advance.new.tree c.self.invariant (subst GoesOn (sym c.self.view_is) c.requires.goes_on) c.in_ok-advance.ensures.advanced)
