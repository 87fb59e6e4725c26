use Rattle.network_file.specs.Told.{told_data}
use Rattle.network_file.proofs.Numbering.{given_named, given_in_format}
use Rattle.network_file.proofs.network.read_network.Goals as goal

pub returns-clause-named : goal.returns-clause-named
returns-clause-named c = given_named (told_data c.in_ok-told.told) c.study_of.result c.study_of.ensures.exact

pub returns-clause-in_format : goal.returns-clause-in_format
returns-clause-in_format c = given_in_format (told_data c.in_ok-told.told) c.study_of.result c.in_ok-told.ensures.keeps c.in_ok-told.ensures.suits c.study_of.ensures.exact
