use Rattle.std.specs.Prelude.{Option}
use Rattle.std.proofs.Common.{◌≡◌, None, [], ◌∷◌, ◌++◌, refl, sym, ◌∙◌, subst}
use Rattle.cert_check.specs.Streams.{Reads}
use Rattle.cert_check.specs.declared.lines.LineFault.{LineFault}
use Rattle.cert_check.specs.declared.stream.TextCheck.{TextCheck}
use Rattle.cert_check.proofs.ByteSteps.{reads_byte, reads_on}
use Rattle.cert_check.proofs.LineSteps.{none_there}
use Rattle.cert_check.proofs.stream.TextCheck.byte.Goals as goal

pub returns-then-is_some : goal.returns-then-is_some
returns-then-is_some c = λ read reads.
    reads_on c.args.inst.now c.args.self.now read (c.args.byte ∷ []) c.args.self.now.lines.fault (sym c.is_some.ensures ∙ c.if-is_some.true) reads

pub returns-else-byte-eq10 : goal.returns-else-byte-eq10
returns-else-byte-eq10 c = λ read reads.
    let old = c.args.self.now in
    let none : old.lines.fault ≡ None = none_there old.lines.fault (sym c.is_some.ensures ∙ c.if-is_some.false) in
    let goes = subst (λ (f : Option LineFault). Reads c.args.inst.now old read f) none reads in
    let after : TextCheck = record { room = c.push.new.self; lines = old.lines } in
    subst (λ (f : Option LineFault). Reads c.args.inst.now after (read ++ c.args.byte ∷ []) f) (sym none) (reads_byte c.args.inst.now old after read c.args.byte refl c.push.ensures goes)
