pub mod Kept
pub mod Scaled
