-- What nodes and trees give, to be held against the claim of a head (ours).
use Rattle.std.specs.Prelude.{ℕ, Option}
use Rattle.coord_model.specs.Tree.{Tree}
use Rattle.cert_text.specs.declared.kinds.CertHead.{CertHead}
use Rattle.cert_tree.specs.Endings.{counts_of, ending_by}
use Rattle.cert_tree.specs.declared.counts.Counts.{Counts}
use Rattle.cert_check.specs.declared.found.Found.{Found}

-- what nodes with these counts and this bound give
abbrev pub found_by : Counts → Option ℕ → CertHead → Found
found_by counts bound head = record {
  boxes = counts.boxes;
  bound = bound;
  ending = ending_by counts bound head.cost head.gap head.budget;
}

-- what a tree with this bound gives
abbrev pub found_of : Tree → Option ℕ → CertHead → Found
found_of tree bound head = found_by (counts_of tree) bound head
