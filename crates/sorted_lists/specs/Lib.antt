pub mod Range
pub mod SortedList
pub mod Members
pub mod Climbing
pub mod Least
pub mod MapState
pub mod BlockMap
pub mod Runs
