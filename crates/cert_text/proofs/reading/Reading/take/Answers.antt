use Rattle.std.proofs.Common.{refl, subst}
use Rattle.cert_text.specs.ScanState.{Follows, IsItem, state_of, weights_of}
use Rattle.cert_text.proofs.ReadingSteps.{end_goes_on, grows, head_goes_on, node_goes_on}
use Rattle.cert_text.proofs.reading.Reading.take.Goals as goal

pub take-requires-clause-growing : goal.take-requires-clause-growing
take-requires-clause-growing c =
    let before = state_of c.args.self.now.scan in
    let is = subst (λ i. IsItem i before (state_of c.line.new.self) (weights_of c.line.new.self) c.args.line.now) c.in-Ok-Node.field-0-is c.in-Ok-Node.ensures.item in
    grows c.args.self.now c.requires.0 c.requires.1 is.0

pub returns-in_ok-take-in-Ok-Node-clause-goes : goal.returns-in_ok-take-in-Ok-Node-clause-goes
returns-in_ok-take-in-Ok-Node-clause-goes c lines taken =
    let before = state_of c.args.self.now.scan in
    let after = state_of c.line.new.self in
    node_goes_on c.args.self.now (record { scan = c.line.new.self; tree = c.take.new.self }) lines c.args.line.now c.in-Ok-Node.ensures.refused
    (c.in-Ok-Node.ensures.goes lines taken.reached) taken c.in-Ok-Node.node c.weights.result.now
    (subst (λ i. IsItem i before after (weights_of c.line.new.self) c.args.line.now) c.in-Ok-Node.field-0-is c.in-Ok-Node.ensures.item)
    (subst (λ i. Follows i before after c.args.line.now) c.in-Ok-Node.field-0-is c.in-Ok-Node.ensures.follows) c.weights.ensures c.in_ok-take-in-Ok-Node.ensures

pub returns-in-Ok-Head-clause-goes : goal.returns-in-Ok-Head-clause-goes
returns-in-Ok-Head-clause-goes c lines taken =
    let before = state_of c.args.self.now.scan in
    let after = state_of c.line.new.self in
    head_goes_on c.args.self.now (record { scan = c.line.new.self; tree = c.args.self.now.tree }) lines c.args.line.now c.in-Ok-Head.ensures.refused
    (c.in-Ok-Head.ensures.goes lines taken.reached) taken
    (subst (λ i. IsItem i before after (weights_of c.line.new.self) c.args.line.now) c.in-Ok-Head.field-0-is c.in-Ok-Head.ensures.item)
    (subst (λ i. Follows i before after c.args.line.now) c.in-Ok-Head.field-0-is c.in-Ok-Head.ensures.follows) refl

pub returns-in-Ok-End-clause-goes : goal.returns-in-Ok-End-clause-goes
returns-in-Ok-End-clause-goes c lines taken =
    let before = state_of c.args.self.now.scan in
    let after = state_of c.line.new.self in
    end_goes_on c.args.self.now (record { scan = c.line.new.self; tree = c.args.self.now.tree }) lines c.args.line.now c.in-Ok-End.ensures.refused
    (c.in-Ok-End.ensures.goes lines taken.reached) taken
    (subst (λ i. IsItem i before after (weights_of c.line.new.self) c.args.line.now) c.in-Ok-End.field-0-is c.in-Ok-End.ensures.item)
    (subst (λ i. Follows i before after c.args.line.now) c.in-Ok-End.field-0-is c.in-Ok-End.ensures.follows) refl
