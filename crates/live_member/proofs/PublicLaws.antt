-- The laws that crates above may cite.
pub use Rattle.live_member.proofs.Around.{width_whole, number_there, whole_at}
pub use Rattle.live_member.proofs.WithinLimits.{parts_are_counted, within}
pub use Rattle.live_member.proofs.Journals.{IsAfter}
pub use Rattle.live_member.proofs.ClaimSteps.{claim_after, lose_after}
pub use Rattle.live_member.proofs.HearSteps.{hear_after}
pub use Rattle.live_member.proofs.AcceptSteps.{accept_after}
