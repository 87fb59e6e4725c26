pub mod Changes
pub mod Counting
pub mod Goings
pub mod HandedOver
pub mod Outcomes
mod Places
mod QuietGoings
mod QuietPlaces
pub mod Readings
