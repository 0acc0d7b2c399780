pub mod WordsOn
pub mod Steps
pub mod Inputs
pub mod Passing
pub mod PlaceNames
pub mod Wholes
pub mod Joins
pub mod Togethers
