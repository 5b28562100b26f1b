pub mod Notes
pub mod Hearing
pub mod Partings
