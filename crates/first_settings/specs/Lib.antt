pub mod Questions
pub mod Interviews
pub mod Written
