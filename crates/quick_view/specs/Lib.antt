pub mod Kept
pub mod Views
pub mod Moding
pub mod Listing
pub mod FromLines
pub mod Coded
pub mod Weights
