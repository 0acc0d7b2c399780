pub mod Knowledge
pub mod Delivery
pub mod Ends
