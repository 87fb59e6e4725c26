use Rattle.std.proofs.Common.{◌≡◌}
use Rattle.std.specs.List.{range_with_len, flat_map}
use Rattle.coord_model.specs.Pairs.{pairs_behind}
use Rattle.coord_model.specs.StudyData.{study_data}
use Rattle.relay_pairs.proofs.backing.pairs.Given as goal

abbrev pub invariant-loop-primary : goal.invariant-loop-primary
invariant-loop-primary l = l.pairs.items ≡ flat_map (pairs_behind (study_data l.study)) (range_with_len 0 l.primary)
