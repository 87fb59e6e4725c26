use Rattle.std.proofs.Common.{◌^◌, ◌-◌, ◌≤◌, sym, subst, ◌∙◌, arith, length-take-le, take, map}
use Rattle.std.specs.List.{All}
use Rattle.std.specs.List.Sorted.{IsStrictlyIncreasing}
use Rattle.cert_text.proofs.PairWords.{same_words, second_within}
use Rattle.cert_text.proofs.nodes.read_weights.Goals as goal

pub returns-then-not-are_rising-clause-no_such : goal.returns-then-not-are_rising-clause-no_such
returns-then-not-are_rising-clause-no_such c none ws are is =
    let same = same_words 4095 (2 ^ 32 - 1) (omega arith) (omega arith) (take c.in_ok-n.n c.read_pairs.new.pairs) ws c.in_ok-n.ensures.within are.each (sym c.in_ok-n.ensures.said ∙ is) in
    let rises = subst (λ vs. IsStrictlyIncreasing (map (λ w. w.row) vs)) (sym same) are.leaf.ascending in
    absurd (cc (c.if-not-are_rising.true, c.are_rising.ensures.no rises))

pub returns-then-not-are_some-clause-no_such : goal.returns-then-not-are_some-clause-no_such
returns-then-not-are_some-clause-no_such c none ws are is =
    let same = same_words 4095 (2 ^ 32 - 1) (omega arith) (omega arith) (take c.in_ok-n.n c.read_pairs.new.pairs) ws c.in_ok-n.ensures.within are.each (sym c.in_ok-n.ensures.said ∙ is) in
    let some = subst (All (λ w. 1 ≤ w.weight)) (sym same) are.leaf.some in
    absurd (cc (c.if-not-are_some.true, c.are_some.ensures.no some))

pub returns-clause-is : goal.returns-clause-is
returns-clause-is c = record {
  leaf = record {
    few = omega (arith, c.in_ok-n.ensures.few, length-take-le c.in_ok-n.n c.read_pairs.new.pairs (omega (arith, c.in_ok-n.ensures.few, c.requires.room, c.read_pairs.ensures.length)));
    ascending = c.are_rising.ensures.yes c.if-not-are_rising.false;
    some = c.are_some.ensures.yes c.if-not-are_some.false;
    small = second_within 4095 (2 ^ 32 - 1) (take c.in_ok-n.n c.read_pairs.new.pairs) c.in_ok-n.ensures.within;
  };
  each = c.in_ok-n.ensures.within;
}
