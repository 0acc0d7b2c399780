pub mod Prefixes
pub mod Together
pub mod LabelLemmas
