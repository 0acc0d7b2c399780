pub use Rattle.repo_plan.specs.Parts
pub use Rattle.sorted_lists.specs.SortedList
pub use Rattle.repo_catalog.specs.Entries
pub mod Patterns
pub mod Watching
pub mod Laws
