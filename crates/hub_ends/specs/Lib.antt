pub mod Came
pub mod Outlets
pub mod Memory
pub mod Packets
