use Rattle.std.proofs.Common.{◌≡◌, ◌++◌, take}
use Rattle.coord_model.specs.StudyData.{study_data}
use Rattle.coord_run.specs.Pairs.{pair_texts}
use Rattle.coord_run.proofs.pairs.push_pairs.Given as goal

abbrev pub invariant-loop-pair : goal.invariant-loop-pair
invariant-loop-pair l = l.out.items ≡ l.initial.out.items ++ pair_texts (study_data l.study) (take l.pair-index l.pairs)
