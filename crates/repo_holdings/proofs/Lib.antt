pub mod SortedMaps
pub mod RecordLemmas
pub mod CatalogueLemmas
pub mod WithdrawnLemmas
pub mod NotedLemmas
pub mod GainingLemmas
pub mod AskedLemmas
pub mod WholeLemmas
pub mod StepLemmas
pub mod FreshLemmas
pub mod HidingLemmas
pub mod HoldingsLemmas
mod ArrivedLemmas
pub mod ContentLemmas
mod PairLists
pub mod ParentLemmas
mod PlanLemmas
pub mod PublishLemmas
mod TakingLemmas
