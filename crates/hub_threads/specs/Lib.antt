pub mod Backlogs
pub mod Pumping
pub mod Queues
pub mod Reads
pub mod Rings
pub mod Turns
pub mod Writes
