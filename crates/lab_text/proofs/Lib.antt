pub mod DifferenceLaws
mod Differing
pub mod Feeds
pub mod LineCuts
pub mod NoteTexts
pub mod TranscriptLaws
