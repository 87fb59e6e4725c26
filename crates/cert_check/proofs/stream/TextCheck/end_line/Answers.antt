use Rattle.cert_check.specs.declared.stream.TextCheck.{TextCheck}
use Rattle.cert_check.proofs.ByteSteps.{reads_feed}
use Rattle.cert_check.proofs.stream.TextCheck.end_line.Goals as goal

pub returns : goal.returns
returns c = λ read goes.
    let after : TextCheck = record { room = c.clear.new.self; lines = c.take_room.new.self } in
    reads_feed c.args.inst.now c.args.self.now after read c.take_room.ensures c.clear.ensures goes
