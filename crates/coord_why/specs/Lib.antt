pub mod Links
pub mod Chains
pub mod Raises
pub mod Climbs
