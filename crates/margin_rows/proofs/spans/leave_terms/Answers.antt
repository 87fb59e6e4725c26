use Rattle.std.proofs.Common.{arith, subst, List}
use Rattle.std.proofs.lemmas.List.{take_all}
use Rattle.std.specs.List.{Contains}
use Rattle.coord_model.specs.declared.study.Term.{Term}
use Rattle.margin_rows.specs.Reach.{AreReaches}
use Rattle.margin_rows.proofs.Listed.{term_facts_at}
use Rattle.margin_rows.proofs.Reached.{term_step}
use Rattle.margin_rows.proofs.spans.leave_terms.Goals as goal

pub bounds-reach-place : goal.bounds-reach-place
bounds-reach-place c =
    let facts = term_facts_at c.args.given.now c.args.terms.now c.loop-term.term-index (record { fault = 0; relay = 0 }) c.requires.terms c.loop-term-test.true in
    omega (arith, facts.relay, c.from-place.ensures, c.loop-term.invariant.count)

pub sensing-requires-clause-fault : goal.sensing-requires-clause-fault
sensing-requires-clause-fault c = (term_facts_at c.args.given.now c.args.terms.now c.loop-term.term-index (record { fault = 0; relay = 0 }) c.requires.terms c.loop-term-test.true).fault

pub sensing-requires-clause-relay : goal.sensing-requires-clause-relay
sensing-requires-clause-relay c = (term_facts_at c.args.given.now c.args.terms.now c.loop-term.term-index (record { fault = 0; relay = 0 }) c.requires.terms c.loop-term-test.true).relay

pub bounds-reach-place-in-loop-term : goal.bounds-reach-place-in-loop-term
bounds-reach-place-in-loop-term c =
    let facts = term_facts_at c.args.given.now c.args.terms.now c.loop-term.term-index (record { fault = 0; relay = 0 }) c.requires.terms c.loop-term-test.true in
    omega (arith, facts.relay, c.from-place.ensures, c.loop-term.invariant.count)

pub loop-term-preserved : goal.loop-term-preserved
loop-term-preserved c =
    let facts = term_facts_at c.args.given.now c.args.terms.now c.loop-term.term-index (record { fault = 0; relay = 0 }) c.requires.terms c.loop-term-test.true in
    term_step c.args.given.now c.args.terms.now c.loop-term.term-index (record { fault = 0; relay = 0 }) c.loop-term.reach c.from-place.result c.sensing.result c.loop-term-test.true c.from-place.ensures
    facts.relay c.loop-term.invariant c.sensing.ensures

pub returns : goal.returns
returns c =
    let P : List Term → Type 0 = λ ts. AreReaches c.args.given.now (λ f i. Contains ts (record { fault = f; relay = i })) c.loop-term.reach in
    subst P (take_all c.loop-term.term-index c.args.terms.now c.loop-term-test.false) c.loop-term.invariant
