use Rattle.std.proofs.Common.{◌≡◌, ℕ, ◌+◌, List, [], ◌∷◌, ◌++◌, get_or, take, take_all, arith, sym, ap, ◌∙◌, subst, append_assoc}
use Rattle.std.proofs.lemmas.List.{take_more}
use Rattle.cert_check.specs.Streams.{Reads}
use Rattle.cert_check.proofs.stream.TextCheck.take.Goals as goal

pub loop-byte-preserved : goal.loop-byte-preserved
loop-byte-preserved c =
    let piece = c.args.piece.now in
    let i = c.loop-byte.byte-index in
    let after = c.byte.new.self in
    record {
      known = (c.loop-byte.invariant.known.0 ++ get_or piece i 0 ∷ [], c.byte.ensures c.loop-byte.invariant.known.0 c.loop-byte.invariant.known.1);
      reads = λ read reads.
          let more : (read ++ take i piece) ++ get_or piece i 0 ∷ [] ≡ read ++ take (i + 1) piece =
          append_assoc read (take i piece) (get_or piece i 0 ∷ []) ∙ ap (λ (t : List ℕ). read ++ t) (sym (take_more piece i 0 (omega (arith, c.loop-byte-test.true)))) in
          subst (λ (t : List ℕ). Reads c.args.inst.now after t after.lines.fault) more (c.byte.ensures (read ++ take i piece) (c.loop-byte.invariant.reads read reads));
    }

pub returns : goal.returns
returns c = λ read reads.
    let piece = c.args.piece.now in
    let all : take c.loop-byte.byte-index piece ≡ piece = take_all c.loop-byte.byte-index piece (omega (arith, c.loop-byte-test.false)) in
    subst (λ (t : List ℕ). Reads c.args.inst.now c.loop-byte.self (read ++ t) c.loop-byte.self.lines.fault) all (c.loop-byte.invariant.reads read reads)
