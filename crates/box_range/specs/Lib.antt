pub mod Kinds
pub mod Drops
pub mod Meeting
pub mod Settled
pub mod Looks
pub mod Rounds
pub mod Ends
pub mod Whole
