pub mod Ranks
pub mod Shifts
pub mod Weighed
