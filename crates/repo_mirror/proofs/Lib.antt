pub mod Wants
pub mod Gains
pub mod Settling
pub mod Lists
pub mod Joins
mod AskedLemmas
mod MirrorLemmas
mod HidingLemmas
mod SortedLemmas
mod JobLemmas
mod PlannedLemmas
mod GroupLemmas
mod GrownLemmas
mod TakenLemmas
mod KeptLemmas
mod AcceptedLemmas
mod ReachedLemmas
mod WantedLemmas
mod CallLemmas
mod ConsistentLemmas
mod HolderLemmas
pub mod PublicLaws
