pub mod Types
pub mod Inspection
