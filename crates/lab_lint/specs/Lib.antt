pub use Rattle.lab_text.specs.Outcomes
pub mod Columns
pub mod Expected
pub mod Labels
pub mod Findings
pub mod Linting
pub mod Carrying
