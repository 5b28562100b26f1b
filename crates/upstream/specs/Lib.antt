pub mod Said
pub mod Registration
pub mod Taken
pub mod Progress
pub mod Handshake
pub mod Dialled
pub mod Served
