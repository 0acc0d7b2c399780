pub mod Places
pub mod SentLemmas
