pub use Rattle.repo_io.specs.Outside
pub use Rattle.repo_io.specs.Lines
pub use Rattle.script_report.specs.Labels
pub mod LineErrors
pub mod RunStates
pub mod Reading
pub mod Scripts
