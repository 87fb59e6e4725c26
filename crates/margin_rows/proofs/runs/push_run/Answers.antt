use Rattle.coord_model.specs.StudyData.{study_data}
use Rattle.std.proofs.Common.{◌∙◌, ap, ◌++◌, ◌∷◌, []}
use Rattle.margin_rows.specs.Tables.{cell}
use Rattle.relay_pairs.proofs.Counted.{mapped_yes}
use Rattle.margin_rows.proofs.runs.push_run.Goals as goal

pub loop-step-preserved : goal.loop-step-preserved
loop-step-preserved c =
    mapped_yes (cell (study_data c.args.study.now) c.args.relay.now c.args.amps) c.loop-step.step c.args.times.now.items c.loop-step.times.items c.push.new.self.items c.loop-step.invariant
    (c.in_ok-push.ensures.items ∙ ap (λ t. c.loop-step.times.items ++ t ∷ []) c.time.ensures)
