pub mod Breaks
pub mod ClaimLines
pub mod Digits
pub mod Fronts
pub mod SameWords
pub mod TextSteps
