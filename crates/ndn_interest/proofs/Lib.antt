pub mod LastLemmas
pub mod WriteLemmas
pub mod DigestLemmas
pub mod ReadBackLemmas
pub mod SpelledLemmas
pub mod SignerLemmas
