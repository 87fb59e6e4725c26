use Rattle.csv.specs.Reading.{default_config, records_from, strip_bom}
use Rattle.csv.specs.declared.parser.State.TheVariants as state
use Rattle.coord_model.specs.StudyData.{study_data}
use Rattle.fault_table.specs.Table.{currents_of}
use Rattle.fault_table.proofs.NoPrimaryNamed.{named}
use Rattle.fault_table.proofs.TableKeeps.{given_primaries, given_once}
use Rattle.fault_table.proofs.table.read_currents.Goals as goal

pub returns-clause-exact : goal.returns-clause-exact
unfolding currents_of
returns-clause-exact c =
    let made = c.from_reader-reader.ensures in
    rw (made.state, made.source) at c.read_table.ensures.exact

pub returns-clause-primaries : goal.returns-clause-primaries
returns-clause-primaries c =
    let made = c.from_reader-reader.ensures in
    given_primaries (study_data c.args.study.now) (records_from default_config 8194 state.StartRecord (strip_bom c.args.bytes.now))
    c.read_table.result (rw (made.state, made.source) at c.read_table.ensures.exact)

pub returns-clause-once : goal.returns-clause-once
returns-clause-once c =
    let made = c.from_reader-reader.ensures in
    given_once (study_data c.args.study.now) (records_from default_config 8194 state.StartRecord (strip_bom c.args.bytes.now))
    c.read_table.result (rw (made.state, made.source) at c.read_table.ensures.exact)

pub returns-clause-named : goal.returns-clause-named
returns-clause-named c = λ number is.
    let made = c.from_reader-reader.ensures in
    let exact = rw is at (rw (made.state, made.source) at c.read_table.ensures.exact) in
    named (study_data c.args.study.now) (records_from default_config 8194 state.StartRecord (strip_bom c.args.bytes.now)) number (exact (λ same. cc))
