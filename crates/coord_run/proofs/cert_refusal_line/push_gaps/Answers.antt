use Rattle.std.proofs.Common.{append_assoc}
use Rattle.coord_run.specs.CertRefusals.{least_text}
use Rattle.coord_run.proofs.cert_refusal_line.push_gaps.Goals as goal

pub returns : goal.returns
unfolding least_text
returns c =
    rw (c.in_ok-push_number-2.ensures.added, c.in_ok-extend_from_slice-2.ensures.items, c.in_ok-push_number.ensures.added, c.in_ok-extend_from_slice.ensures.items)
    (simp append_assoc)
