pub use Rattle.repo_plan.specs.Calls
pub use Rattle.live_member.specs.Reports
pub mod ActorCalls
pub mod Noting
