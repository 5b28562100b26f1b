pub mod Costs
pub mod Sums
