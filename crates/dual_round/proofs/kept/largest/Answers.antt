use Rattle.std.proofs.Common.{rules, ◌==◌, map}
use Rattle.std.specs.List.{IsDistinct}
use Rattle.std.specs.List.Sorted.{IsSortedBy, IsNonDecreasingBy}
use Rattle.std.proofs.lemmas.List.Sorted.{answers_always, IsNonDecreasingBy-from_sort_by_key}
use Rattle.dual_round.specs.Kept.{ranks_before}
use Rattle.dual_round.proofs.Ranks.{ranks_order, ranked, rows_rise, stays_through, shuffled_rows}
use Rattle.dual_round.proofs.kept.largest.Goals as goal

pub returns-clause-kept : goal.returns-clause-kept
returns-clause-kept c =
    let ws = c.args.weights.items in
    let sorted = c.sort_unstable_by.new.self.items in
    let up : IsSortedBy ranks_before sorted = c.sort_unstable_by.ensures.sorted ranks_before ranks_order (answers_always _ _ _ (λ f a r g h. search rules)) in
    let apart : IsDistinct ◌==◌ (map (λ w. w.row) sorted) = shuffled_rows ws sorted c.sort_unstable_by.ensures.permutation c.requires.distinct in
    stays_through ws sorted c.truncate.new.self.items c.sort_unstable_by_key.new.self.items c.sort_unstable_by.ensures.permutation
    (ranked sorted up apart) c.truncate.ensures.items c.sort_unstable_by_key.ensures.permutation

pub returns-clause-ascending : goal.returns-clause-ascending
returns-clause-ascending c =
    let up : IsNonDecreasingBy (λ w. w.row) c.sort_unstable_by_key.new.self.items =
    IsNonDecreasingBy-from_sort_by_key (λ w. w.row) _ c.sort_unstable_by_key.ensures.sorted (λ a r q k. search rules) in
    rows_rise c.args.weights.items c.sort_unstable_by.new.self.items c.truncate.new.self.items c.sort_unstable_by_key.new.self.items
    c.requires.distinct c.sort_unstable_by.ensures.permutation c.truncate.ensures.items c.sort_unstable_by_key.ensures.permutation up
