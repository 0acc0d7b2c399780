pub mod Outside
pub mod InMemory
pub mod Lines
pub mod Statuses
