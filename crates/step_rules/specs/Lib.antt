pub mod Offers
pub mod Usable
pub mod Premises
pub mod Splits
pub mod Rules
pub mod Issuing
pub mod OpenBoxes
pub mod Handlings
