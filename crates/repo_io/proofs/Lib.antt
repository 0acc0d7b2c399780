pub mod Outputs
pub mod LineLaws
