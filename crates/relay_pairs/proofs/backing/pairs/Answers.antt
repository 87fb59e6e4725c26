use Rattle.std.specs.List.{AllPairs, Contains, flat_map, range_with_len}
use Rattle.std.proofs.Common.{◌≡◌, ℕ, List, length, arith, sym, ap, ◌∙◌, subst}
use Rattle.std.specs.Prelude.{◌≢◌, ◌↔◌, IsTrue}
use Rattle.coord_model.specs.Pairs.{backs, pairs_behind, pairs_of}
use Rattle.coord_model.specs.StudyData.{study_data}
use Rattle.coord_model.specs.declared.study.Pair.{Pair}
use Rattle.relay_pairs.specs.Order.{ComesBefore}
use Rattle.relay_pairs.proofs.Counted.{piece_yes}
use Rattle.relay_pairs.proofs.PairLaws.{listed_where_backing, pairs_in_order, pairs_once}
use Rattle.relay_pairs.proofs.backing.pairs.Goals as goal

pub loop-primary-preserved : goal.loop-primary-preserved
loop-primary-preserved c = piece_yes _ c.loop-primary.primary c.loop-primary.pairs.items _ c.loop-primary.invariant c.in_ok-push_pairs_behind.ensures

-- once all primaries are gone through, the pairs stand there
all_pairs : (c : goal.After-loop-primary) → c.loop-primary.pairs.items ≡ pairs_of (study_data c.args.study.now)
all_pairs c =
    let relays = c.args.study.now.relays in
    let past : c.loop-primary.primary ≡ length relays.items = omega (arith, c.len-primary-end.ensures, relays.ok.0) in
    c.loop-primary.invariant ∙ ap (λ (n : ℕ). flat_map (pairs_behind (study_data c.args.study.now)) (range_with_len 0 n)) past

pub returns-clause-listed : goal.returns-clause-listed
returns-clause-listed c =
    let study = study_data c.args.study.now in
    let P : List Pair → Type 0 = λ ps. (pair : Pair) → Contains ps pair ↔ IsTrue (backs study pair.backup pair.primary) in
    subst P (sym (all_pairs c)) (listed_where_backing study)

pub returns-clause-ordered : goal.returns-clause-ordered
returns-clause-ordered c =
    let P : List Pair → Type 0 = λ ps. AllPairs ComesBefore ps in
    subst P (sym (all_pairs c)) (pairs_in_order (study_data c.args.study.now))

pub returns-clause-once : goal.returns-clause-once
returns-clause-once c =
    let P : List Pair → Type 0 = λ ps. AllPairs (λ (pair other : Pair). pair ≢ other) ps in
    subst P (sym (all_pairs c)) (pairs_once (study_data c.args.study.now))
