pub mod EndLaws
pub mod Ends
pub mod Laws
