pub mod Readings
pub mod Labels
pub mod Judgings
pub mod RunStateLemmas
pub mod WatchLines
pub mod MirrorWorlds
pub mod MirrorSettles
pub mod MirrorLines
