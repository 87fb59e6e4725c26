use Rattle.std.proofs.Common.{arith, refl, sym, subst}
use Rattle.cert_text.specs.Stops.{IsRefusalOf}
use Rattle.cert_text.specs.declared.refusal.CertRefusal.TheVariants.{Fault}
use Rattle.cert_text.proofs.ReadingSteps.{few_read, handed_on, line_refused, missing_refused, reads_on}
use Rattle.cert_text.proofs.reading.read_lines.Goals as goal

pub returns-in_err-take-clause-stops : goal.returns-in_err-take-clause-stops
returns-in_err-take-clause-stops c =
    let here = c.in-Some.ensures.line in
    handed_on (IsRefusalOf c.args.bytes.now) c.from_residual-in_err-take.result c.in_err-take.field-0.0 c.from_residual-in_err-take.ensures.1
    (line_refused c.args.bytes.now c.loop-line.left.now c.in-Some.line.now c.in-Some.rest.now c.loop-line.reading c.loop-line.number c.loop-line.invariant here.0 here.1
    c.in_err-take.field-0.0 c.in_err-take.ensures.stops)

pub overflow_add-number : goal.overflow_add-number
overflow_add-number c = omega (arith, few_read c.args.bytes.now c.loop-line.left.now c.loop-line.reading c.loop-line.number c.loop-line.invariant)

pub loop-line-preserved : goal.loop-line-preserved
loop-line-preserved c =
    let here = c.in-Some.ensures.line in
    reads_on c.args.bytes.now c.loop-line.left.now c.in-Some.line.now c.in-Some.rest.now c.loop-line.reading c.take.new.self c.loop-line.number c.loop-line.invariant here.0 here.1
    c.in_ok-take.ensures.goes

pub returns-then-not-is_whole-clause-stops : goal.returns-then-not-is_whole-clause-stops
returns-then-not-is_whole-clause-stops c =
    let read = c.loop-line.invariant in
    subst (IsRefusalOf c.args.bytes.now) (sym c.fault.ensures)
    (subst (λ k. IsRefusalOf c.args.bytes.now (Fault c.loop-line.number k)) (sym c.due.ensures)
    (missing_refused c.args.bytes.now c.loop-line.left.now c.loop-line.reading c.loop-line.number read
    (λ none due. cc (c.is_whole.ensures.no none due, c.if-not-is_whole.true)) (c.in_default.ensures.no_line refl)))
