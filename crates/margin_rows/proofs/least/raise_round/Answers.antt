use Rattle.std.proofs.Common.{ℕ, List, ap, arith, length, slice_index, subst, sym}
use Rattle.coord_model.specs.declared.study.Row.{Row}
use Rattle.margin_rows.specs.Case.{row_at}
use Rattle.margin_rows.specs.Raised.{AreLow}
use Rattle.margin_rows.proofs.Listed.{at_number}
use Rattle.margin_rows.proofs.Raising.{wait_meets, other_suffices, raised_low, raised_sum, so_far_kept, so_far_rose, round_done}
use Rattle.margin_rows.proofs.least.raise_round.Goals as goal
use Rattle.margin_rows.proofs.least.raise_round.Goals.{in-Kept, in-Rose}

pub overflow_cast-row-end : goal.overflow_cast-row-end
overflow_cast-row-end c = omega (arith, ap (λ (rs : List Row). length rs) c.rows.ensures.value, c.rows.ensures.fits.few_rows)

pub returns-in-Beyond : goal.returns-in-Beyond
returns-in-Beyond c other meet =
    let case = c.args.inst.now in
    let listed = at_number case c.loop-row.row (omega (arith, c.loop-row-test.true, ap (λ (rs : List Row). length rs) c.rows.ensures.value)) in
    let enough = other_suffices c.args.meeting case c.args.pickups.now c.loop-row.dials (row_at case c.loop-row.row) c.wait_at.result other listed c.wait_at.ensures.exact c.loop-row.invariant.low meet in
    c.in-Beyond.ensures (slice_index other.dial c.wait_at.result.backup) enough.0 enough.1

pub loop-row-preserved : goal.loop-row-preserved
loop-row-preserved c =
    let case = c.args.inst.now in
    let pickups = c.args.pickups.now in
    let row = row_at case c.loop-row.row in
    let listed = at_number case c.loop-row.row (omega (arith, c.loop-row-test.true, ap (λ (rs : List Row). length rs) c.rows.ensures.value)) in
    elim c.match-raise.branch [
      | in-Kept w ↦
          let Low : List ℕ → Type 0 = λ ds. AreLow c.args.meeting case pickups ds in
          let met = wait_meets c.args.meeting case pickups c.loop-row.dials row c.wait_at.result c.wait_at.ensures.exact w.in-Kept.ensures.1 in
          record {
            low = subst Low (sym w.in-Kept.ensures.0) c.loop-row.invariant.low;
            so_far = rw w.rise-is (so_far_kept c.args.meeting case pickups c.args.dials.now c.loop-row.dials c.raise.new.dials c.loop-row.row c.loop-row.rise w.in-Kept.ensures.0 met c.loop-row.invariant.so_far);
          }
      | in-Rose w ↦ record {
        low = raised_low c.args.meeting case pickups c.loop-row.dials c.raise.new.dials row c.wait_at.result c.wait_at.ensures.fits listed c.wait_at.ensures.exact c.loop-row.invariant.low w.in-Rose.ensures;
        so_far = rw w.rise-is (so_far_rose c.args.meeting case pickups c.args.dials.now c.loop-row.dials c.raise.new.dials c.loop-row.row c.loop-row.rise
            (raised_sum case c.wait_at.result c.loop-row.dials c.raise.new.dials c.wait_at.ensures.fits c.loop-row.invariant.low.on_steps w.in-Rose.ensures) c.loop-row.invariant.so_far);
      }
    ]

pub returns : goal.returns
returns c = round_done c.args.meeting c.args.inst.now c.args.pickups.now c.args.dials.now c.loop-row.dials c.loop-row.row c.loop-row.rise (omega (arith, c.loop-row-test.false, ap (λ (rs : List Row). length rs) c.rows.ensures.value)) c.loop-row.invariant.low c.loop-row.invariant.so_far
