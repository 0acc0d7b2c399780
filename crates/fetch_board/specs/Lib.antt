pub mod Counts
pub mod Words
pub mod Seats
pub mod Answers
pub mod Rule
pub mod Steps
pub mod Boards
pub mod Places
