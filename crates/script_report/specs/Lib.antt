pub use Rattle.ndn_name.specs.Names
pub use Rattle.ndn_name.specs.Uri
pub mod Texts
pub mod Pieces
pub mod Limits
pub mod Labels
pub mod Refusals
