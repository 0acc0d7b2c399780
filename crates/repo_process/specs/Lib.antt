pub use Rattle.ndn_name.specs.Names
pub use Rattle.sorted_lists.specs.SortedList
pub use Rattle.sorted_lists.specs.Range
pub use Rattle.repo_object.specs.Objects
pub mod Processes
pub mod Arrivals
pub mod Insertions
pub mod Fields
