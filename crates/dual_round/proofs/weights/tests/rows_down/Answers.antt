use Rattle.std.specs.Int.RustNames.{unsigned_abs}
use Rattle.std.proofs.Common.{◌-◌, ◌<◌, ◌^◌, ℕ, List, [], ◌∷◌, ◌++◌, ap, sym, arith, rules, ◌∙◌}
use Rattle.std.proofs.lemmas.Int.{to_z-of_z}
use Rattle.std.proofs.lemmas.List.{map_push}
use Rattle.std.proofs.lemmas.List.Elements.{All-push}
use Rattle.std.proofs.lemmas.List.FromFn.{map-range_with_len_more}
use mir.Syntax.{w128}
use mir.Val.{SFits}
use Rattle.dual_round.proofs.weights.tests.rows_down.Goals as goal

pub loop-k-preserved : goal.loop-k-preserved
loop-k-preserved c =
    let fits : SFits w128 c.half_units.result = search rules in
    record {
      fits = rw c.in_ok-push.ensures.items (All-push (λ r. unsigned_abs r.1 < 2 ^ 126) c.loop-k.rows.items _ c.loop-k.invariant.fits (rw (to_z-of_z w128 c.half_units.result fits) c.half_units.ensures));
      rows = rw c.in_ok-push.ensures.items (map_push (λ r. r.0) c.loop-k.rows.items _ ∙ ap (λ (ks : List ℕ). ks ++ (64 - c.loop-k.k) ∷ []) c.loop-k.invariant.rows ∙ sym (map-range_with_len_more (λ k. 64 - k) 0 c.loop-k.k c.loop-k.k (omega arith)));
    }
