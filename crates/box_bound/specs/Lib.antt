pub mod RelayParts
pub mod DualValue
pub mod LowerBound
pub mod Standing
pub mod Weighing
