pub mod Attach
pub mod Check
pub mod Command
pub mod Faults
pub mod Log
pub mod Report
pub mod Stream
