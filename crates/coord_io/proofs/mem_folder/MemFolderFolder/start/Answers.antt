use Rattle.std.proofs.Common.{ap, ◌∙◌, inl}
use Rattle.coord_io.proofs.Goings.{goes_here, goes_viewed}
use Rattle.coord_io.proofs.mem_folder.MemFolderFolder.start.Goals as goal

pub returns-then-is_due-clause-unstarted : goal.returns-then-is_due-clause-unstarted
returns-then-is_due-clause-unstarted c = goes_here (inl (ap (λ s. s.files) c.self.view_is))

pub returns-in_default-clause-unstarted : goal.returns-in_default-clause-unstarted
returns-in_default-clause-unstarted c = goes_here (inl (c.in_default.ensures.err ∙ ap (λ s. s.files) c.self.view_is))

pub returns-clause-started : goal.returns-clause-started
returns-clause-started c = goes_viewed (ap (λ s. s.files) c.self.view_is) c.in-Ok.ensures.ok
