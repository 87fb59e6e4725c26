-- The names of files that a command asks for, as plain data.
use Rattle.coord_run.specs.declared.solve.Asked.{Asked}
use Rattle.coord_run.specs.declared.words.Names.{Names}
use Rattle.coord_words.specs.SolveWords.{FileNames, SolveWords}

-- the bytes of the names
abbrev pub names_data : Names → FileNames
names_data names = record { network = names.network.now; currents = names.currents.now; sheet = names.sheet.now; cert = names.cert.now }

-- what `solve` is asked, with the bytes of its names
abbrev pub asked_data : Asked → SolveWords
asked_data asked = record { names = names_data asked.names; gap = asked.gap; budget = asked.budget }
