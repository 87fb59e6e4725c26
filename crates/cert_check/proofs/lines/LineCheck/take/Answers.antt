use Rattle.std.specs.Prelude.{Option}
use Rattle.std.proofs.Common.{◌+◌, arith, refl, sym, subst}
use Rattle.cert_check.specs.Streams.{GoesOrStops}
use Rattle.cert_check.specs.declared.lines.LineCheck.{LineCheck}
use Rattle.cert_check.specs.declared.lines.LineFault.{LineFault}
use Rattle.cert_check.proofs.LineSteps.{bad_line, goes_node, goes_other, node_can, taken_few}
use Rattle.cert_text.specs.ScanState.{state_of, weights_of}
use Rattle.cert_check.proofs.lines.LineCheck.take.Goals as goal

pub take-requires-clause-can : goal.take-requires-clause-can
take-requires-clause-can c = λ none.
    let item = rw c.in-Node.is at c.in-Ok.ensures.item in
    node_can c.args.inst.now c.args.self.now c.requires.known.0 (state_of c.line.new.self) c.in-Node.node (weights_of c.line.new.self) c.weights.result.now c.args.line.now
    c.requires.known.1 item c.weights.ensures none

pub overflow_add-self : goal.overflow_add-self
overflow_add-self c = omega (arith, taken_few c.args.inst.now c.args.self.now c.requires.known.0 c.requires.known.1)

pub overflow_add-line : goal.overflow_add-line
overflow_add-line c = omega (arith, taken_few c.args.inst.now c.args.self.now c.requires.known.0 c.requires.known.1)

pub returns-in-Node : goal.returns-in-Node
returns-in-Node c = λ lines goes.
    let old = c.args.self.now in
    let after : LineCheck = record { scan = c.line.new.self; nodes = c.take.new.self; taken = old.taken + 1; fault = old.fault } in
    let item = rw c.in-Node.is at c.in-Ok.ensures.item in
    subst (λ (f : Option LineFault). GoesOrStops c.args.inst.now after lines c.args.line.now f) (sym c.requires.open)
    (goes_node c.args.inst.now old after lines c.args.line.now c.in-Node.node (weights_of c.line.new.self) c.weights.result.now goes item c.weights.ensures
    (c.in-Ok.ensures.goes lines goes.reached) c.in-Ok.ensures.refused refl c.take.ensures)

pub returns-in_default : goal.returns-in_default
returns-in_default c = λ lines goes.
    let old = c.args.self.now in
    let after : LineCheck = record { scan = c.line.new.self; nodes = old.nodes; taken = old.taken + 1; fault = old.fault } in
    subst (λ (f : Option LineFault). GoesOrStops c.args.inst.now after lines c.args.line.now f) (sym c.requires.open)
    (goes_other c.args.inst.now old after lines c.args.line.now c.in-Ok.item (weights_of c.line.new.self) c.in_default.not-Node goes c.in-Ok.ensures.item
    (c.in-Ok.ensures.goes lines goes.reached) c.in-Ok.ensures.refused refl refl)

pub returns-in-Err : goal.returns-in-Err
returns-in-Err c = λ lines goes.
    bad_line c.args.inst.now c.args.self.now lines c.args.line.now (c.args.self.now.taken + 1) c.in-Err.kind goes refl c.in-Err.ensures.due (c.in-Err.ensures.stops lines goes.reached)
