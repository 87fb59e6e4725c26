use Rattle.std.specs.Int.RustNames.{unsigned_abs}
use Rattle.std.specs.List.{All, range_with_len}
use Rattle.std.proofs.Common.{◌≡◌, ◌-◌, ◌<◌, ◌^◌, map}
use Rattle.dual_round.proofs.weights.tests.rows_down.Given as goal

abbrev pub invariant-loop-k : goal.invariant-loop-k
invariant-loop-k l = record {
  fits : All (λ r. unsigned_abs r.1 < 2 ^ 126) l.rows.items;
  rows : map (λ r. r.0) l.rows.items ≡ map (λ k. 64 - k) (range_with_len 0 l.k);
}
