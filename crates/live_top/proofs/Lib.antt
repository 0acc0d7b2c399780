mod PrintedMembers
mod PrintedLines
mod PrintedClaims
mod PrintedPublishers
pub mod Cutting
pub mod Counting
pub mod Reading
mod Running
mod Prefixes
