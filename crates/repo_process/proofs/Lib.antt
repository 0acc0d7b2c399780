pub mod Numbers
pub mod Numbered
pub mod BlockLemmas
pub mod ProcessLemmas
pub mod InsideLemmas
pub mod PlaceLemmas
pub mod LawLemmas
