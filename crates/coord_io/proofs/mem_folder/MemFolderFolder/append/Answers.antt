use Rattle.std.proofs.Common.{refl, ap, ◌∙◌}
use Rattle.std.proofs.Math.Seq.{take-length}
use Rattle.coord_io.proofs.Changes.{gains_no_part}
use Rattle.coord_io.proofs.Goings.{goes_here, goes_viewed}
use Rattle.coord_io.proofs.mem_folder.MemFolderFolder.append.Goals as goal

pub returns-then-is_due-clause-part : goal.returns-then-is_due-clause-part
returns-then-is_due-clause-part c = goes_here (gains_no_part _ _ _ _ (c.requires _ refl) (ap (λ s. s.files) c.self.view_is))

pub returns-in_default-clause-part : goal.returns-in_default-clause-part
returns-in_default-clause-part c = goes_here (gains_no_part _ _ _ _ (c.requires _ refl) (c.in_default.ensures.err ∙ ap (λ s. s.files) c.self.view_is))

pub returns-clause-added : goal.returns-clause-added
returns-clause-added c = goes_viewed (ap (λ s. s.files) c.self.view_is) (rw take-length c.in-Ok.ensures.ok)
