pub mod Numbers
pub mod Prefixes
pub mod Spans
pub mod LintAgrees
