pub mod Evaluated
pub mod Taking
pub mod Declaring
pub mod Publishing
pub mod Giving
