use Rattle.std.proofs.Common.{Option, Some, None, le_refl, refl, inr}
use Rattle.coord_io.specs.Outside.{FolderState, IsReadAlone, SinkState}
use Rattle.coord_run.specs.End.{no_memory}
use Rattle.coord_run.specs.Program.{Does}
use Rattle.coord_words.specs.Words.{Command, check, drill, margins, pairs, solve}
use Rattle.coord_run.proofs.program.obey.Goals as goal

untouched : (folder : FolderState) → IsReadAlone folder folder
untouched folder = record { stay = record { came = λ n is. (n, is, refl) }; reads = le_refl folder.reads; writes = refl }

-- every command may end for want of memory before it begins
unbegun : (command : Option Command) (folder : FolderState) (sink : SinkState) → Does command folder folder sink sink 30
unbegun None folder sink = (refl, inr (refl, refl))
unbegun (Some (solve asked)) folder sink = record { end = no_memory; caused = untouched folder; printed = (refl, refl) }
unbegun (Some (pairs network)) folder sink = record { end = no_memory; caused = untouched folder; printed = (refl, refl) }
unbegun (Some (margins names)) folder sink = record { end = no_memory; caused = untouched folder; printed = (refl, refl) }
unbegun (Some (check names)) folder sink = record { end = no_memory; caused = untouched folder; printed = (refl, refl) }
unbegun (Some (drill n)) folder sink = (refl, inr (refl, refl))

pub returns-in-Err-NoMemory : goal.returns-in-Err-NoMemory
returns-in-Err-NoMemory g c = unbegun _ (g.F.Folder.state c.args.folder.now) (g.K.Sink.state c.args.out.now)
