-- Names of nodes, for the tests.
pub use Rattle.repo_member.proofs.PublicLaws.{plain_name}
