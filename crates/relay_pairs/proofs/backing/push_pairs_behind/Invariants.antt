use Rattle.std.proofs.Common.{◌≡◌, ◌++◌, map}
use Rattle.std.specs.List.{range_with_len, filter}
use Rattle.coord_model.specs.Pairs.{backs}
use Rattle.coord_model.specs.StudyData.{study_data}
use Rattle.relay_pairs.proofs.backing.push_pairs_behind.Given as goal

abbrev pub invariant-loop-backup : goal.invariant-loop-backup
invariant-loop-backup l =
    l.pairs.items ≡ l.initial.pairs.items ++ map (λ b. record { backup = b; primary = l.primary }) (filter (λ b. backs (study_data l.study) b l.primary) (range_with_len 0 l.backup))
