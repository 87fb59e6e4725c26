use Rattle.std.proofs.Common.{append_assoc, w64}
use Rattle.std.proofs.lemmas.Int.{to_z-of_z}
use Rattle.coord_run.specs.RowLine.{row_margins}
use Rattle.coord_run.proofs.row_line.push_margins.Goals as goal

pub returns : goal.returns
unfolding row_margins
returns c =
    let loose = to_z-of_z w64 c.args.loose c.ranges.loose in
    let strict = to_z-of_z w64 c.args.strict c.ranges.strict in
    rw (
      c.in_ok-extend_from_slice-3.ensures.items,
      c.in_ok-push_signed-2.ensures.added,
      c.in_ok-extend_from_slice-2.ensures.items,
      c.in_ok-push_signed.ensures.added,
      c.in_ok-extend_from_slice.ensures.items,
      loose,
      strict,
    )
    (simp append_assoc)
