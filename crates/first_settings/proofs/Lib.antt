pub mod Appended
pub mod Channels
