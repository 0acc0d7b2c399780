pub mod SignedLemmas
pub mod FullNames
pub mod WriteLemmas
pub mod ReadBackLemmas
pub mod ContentLemmas
