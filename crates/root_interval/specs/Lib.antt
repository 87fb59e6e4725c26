pub mod Product
pub mod Power
pub mod Root
