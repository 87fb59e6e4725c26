use Rattle.std.proofs.Common.{ap}
use Rattle.coord_io.proofs.QuietGoings.{grown_gains}
use Rattle.coord_io.proofs.quiet_folder.QuietFolderFolder.append.Goals as goal

pub returns-clause-added : goal.returns-clause-added
returns-clause-added c = grown_gains _ _ _ _ _ (ap (λ s. s.files) c.add.ensures)
