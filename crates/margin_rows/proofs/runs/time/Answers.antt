use Rattle.coord_model.specs.StudyData.{study_data}
use Rattle.std.proofs.Common.{sym, ◌∙◌}
use Rattle.std.proofs.lemmas.Bool.{iff_false}
use Rattle.margin_rows.proofs.Ran.{cell_sensed, cell_blind}
use Rattle.margin_rows.proofs.runs.time.Goals as goal

pub returns-then-senses : goal.returns-then-senses
returns-then-senses c = c.sensed_time.ensures ∙ sym (cell_sensed (study_data c.args.study.now) c.args.relay.now c.args.amps c.args.step (c.senses.ensures.0 c.if-senses.true))

pub returns-else-senses : goal.returns-else-senses
returns-else-senses c = sym (cell_blind (study_data c.args.study.now) c.args.relay.now c.args.amps c.args.step (λ senses. iff_false c.senses.ensures c.if-senses.false senses))
