pub mod Forced
pub mod Added
pub mod Asked
pub mod Walked
pub mod Reached
