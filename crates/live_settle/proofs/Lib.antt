mod Prefixes
pub mod Places
mod Missing
mod States
pub mod Turning
mod Publishing
mod Passes
mod Hearings
mod Ending
