pub mod Transcripts
pub mod Worlds
pub mod Course
pub mod Presence
pub mod Replies
pub mod Late
pub mod Ran
