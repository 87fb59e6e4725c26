use Rattle.root_interval.proofs.RootEnds.{never_falls}
use Rattle.root_interval.proofs.root.ends_never_fall.Goals as goal

pub returns : goal.returns
returns c = never_falls
