pub mod Keystream
pub mod SentList
pub mod SentFields
