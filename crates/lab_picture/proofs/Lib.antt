mod Belows
mod CharacterData
mod Drawings
mod Eachs
mod Markups
mod MirrorCounts
mod WordReads
