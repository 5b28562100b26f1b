pub mod Words
pub mod Places
pub mod Gaps
pub mod Narrowing
