pub mod ProductLaws
pub mod PowerBounds
pub mod PowerLaws
pub mod RootLaws
pub mod RootEnds
