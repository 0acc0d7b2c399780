pub mod LineLemmas
pub mod OpenReadings
