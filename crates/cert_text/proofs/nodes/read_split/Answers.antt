use Rattle.std.proofs.Common.{◌≡◌, ◌∷◌, ◌++◌, refl, arith}
use Rattle.std.specs.Fmt.{decimal}
use Rattle.cert_text.proofs.Cuts.{same_number}
use Rattle.cert_text.proofs.nodes.read_split.Goals as goal

pub returns-in_err-at-clause-no_such : goal.returns-in_err-at-clause-no_such
returns-in_err-at-clause-no_such c none relay at of_relay of_at is =
    let behind : decimal c.in_ok-relay.relay ++ c.in_ok-relay.rest.now ≡ decimal relay ++ 32 ∷ decimal at = cc (c.in_ok-relay.ensures.said, is) in
    let first = same_number c.in_ok-relay.relay relay c.in_ok-relay.rest.now (32 ∷ decimal at) (omega (arith, c.in_ok-relay.ensures.within)) (omega (arith, of_relay)) c.in_ok-relay.ensures.stops refl behind in
    c.in_err-at.ensures.no_such refl at of_at first.1
