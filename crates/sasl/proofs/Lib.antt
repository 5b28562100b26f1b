pub mod Asked
pub mod CleanLemmas
pub mod Passwords
