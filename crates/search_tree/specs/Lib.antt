pub mod Plan
pub mod Steps
pub mod Arena
pub mod Harvest
