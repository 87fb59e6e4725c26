use Rattle.std.proofs.Common.{◌≡◌, ◌++◌, take}
use Rattle.cert_text.specs.Nodes.{weight_words}
use Rattle.cert_text.specs.Pairs.{AreWithin}
use Rattle.cert_text.proofs.PairWords.{StopsAfter}
use Rattle.cert_text.proofs.nodes.read_pairs.Given as goal

abbrev pub invariant-loop-n : goal.invariant-loop-n
invariant-loop-n l = record {
  within : AreWithin l.first l.second (take l.n l.pairs);
  said : l.text ≡ weight_words (take l.n l.pairs) ++ l.left;
  stops : StopsAfter (take l.n l.pairs) l.left;
}
