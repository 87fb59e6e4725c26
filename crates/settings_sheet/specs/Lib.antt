pub mod RelayStops
pub mod SheetData
pub mod SheetFaults
pub mod SheetLines
pub mod SheetText
pub mod Stages
