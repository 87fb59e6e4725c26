use Rattle.std.proofs.Common.{◌≡◌, ◌++◌, map}
use Rattle.std.specs.List.{range_with_len, filter}
use Rattle.coord_model.specs.Rows.{is_primary}
use Rattle.margin_rows.proofs.terms.push_terms_at.Given as goal

abbrev pub invariant-loop-relay : goal.invariant-loop-relay
invariant-loop-relay l =
    l.terms.items ≡ l.initial.terms.items ++ map (λ p. record { fault = l.fault; relay = p }) (filter (is_primary l.given.study l.given.currents l.fault) (range_with_len 0 l.relay))
