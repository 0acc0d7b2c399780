mod GroupLemmas
mod PlainNames
pub mod MemberLemmas
mod PostLemmas
mod OwnLemmas
mod VectorLemmas
mod ChangeLemmas
pub mod ConsistentPackets
mod FoundLemmas
mod ReplyLemmas
mod GroupPlans
mod GroupCatalogues
pub mod LastingPackets
mod EventLemmas
pub mod OutcomeLemmas
mod CallLogs
mod CallVectors
mod PlanChanges
mod HeldParts
mod PublishedParts
mod FetchedParts
mod HiddenParts
mod InsertionParts
mod WaitingLemmas
mod BlockStates
mod DeletionLemmas
mod CommandEvents
mod CallReach
mod CallPackets
mod SegmentDigests
mod PassingPackets
mod ConsistentHolders
pub mod HolderTakes
mod ConsistentMembers
mod ConsistentChanges
mod ConsistentSyncs
mod OrderLemmas
pub mod PublicLaws
