use Rattle.std.specs.Prelude.{Option}
use Rattle.std.proofs.Common.{◌≡◌, None, sym, ◌∙◌, subst}
use Rattle.cert_check.specs.Streams.{Reads}
use Rattle.cert_check.specs.declared.lines.LineFault.{LineFault}
use Rattle.cert_check.proofs.ByteSteps.{bad_stops, due_stops}
use Rattle.cert_check.proofs.LineSteps.{none_there}
use Rattle.cert_check.proofs.stream.TextCheck.line_fault.Goals as goal

pub returns-then-is_some-clause-stops : goal.returns-then-is_some-clause-stops
returns-then-is_some-clause-stops c = bad_stops c.args.self.now c.args.self.now.lines.fault (sym c.is_some.ensures ∙ c.if-is_some.true)

pub next-requires : goal.next-requires
next-requires c =
    let none : c.args.self.now.lines.fault ≡ None = none_there c.args.self.now.lines.fault (sym c.is_some.ensures ∙ c.if-is_some.false) in
    let goes = subst (λ (f : Option LineFault). Reads c.requires.known.0 c.args.self.now c.requires.known.1 f) none c.requires.known.2 in
    record { known = (c.requires.known.0, goes.lines, goes.goes) }

pub returns-clause-stops : goal.returns-clause-stops
returns-clause-stops c = λ case bytes reads.
    let none : c.args.self.now.lines.fault ≡ None = none_there c.args.self.now.lines.fault (sym c.is_some.ensures ∙ c.if-is_some.false) in
    let goes = subst (λ (f : Option LineFault). Reads case c.args.self.now bytes f) none reads in
    due_stops case c.args.self.now bytes c.next.result.line c.next.result.kind goes c.next.ensures.line c.next.ensures.kind
    (λ left is empty after. (let yes_whole = (c.is_whole.ensures left is).1 (empty, after) in let no_whole = c.if-is_whole.false in cc))
