mod Bounded
mod EitherAnswer
mod PacketSizes
pub mod SetSums
mod Touching
pub mod NextParts
mod LentParts
pub mod Attempts
pub mod PhaseOutcomes
pub mod OneByOne
pub mod KnownByAll
pub mod Phases
pub mod Rounds
pub mod MemberGathering
pub mod ConsistentOthers
pub mod AllGathering
pub mod Learnt
pub mod GroupFetches
mod SentOctets
mod States
mod Lacking
mod Spreading
mod MirrorsAtRest
mod MirrorsLacking
mod NobodyLacking
mod MirrorFetches
mod MirrorCounts
mod MirrorAsks
mod MirrorSettling
mod MirrorGathering
mod MirrorStates
mod Openings
mod Claims
mod Deliveries
mod Timers
mod Objects
mod BlockEvents
mod Readers
mod AnswersAndFeeds
mod Hearings
mod Summaries
mod FetchesAndSettles
mod MirrorWorlds
mod Resets
mod RefusedMembers
pub mod Names
pub mod EventRuns
mod Orders
mod IssuedLemmas
mod Stepping
mod Faults
pub mod ClaimedPackets
mod TakenOut
mod ClaimsAmongOthers
mod Answerable
pub mod SettledAgain
