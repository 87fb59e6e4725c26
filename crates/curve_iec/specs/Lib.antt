pub mod Curves
pub mod Laws
