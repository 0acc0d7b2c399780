pub mod Dealing
pub mod Wiring
pub mod Turning
pub mod Seating
pub mod TakingOut
pub mod Desks
pub mod Tickets
pub mod Ending
