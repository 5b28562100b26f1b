pub mod ViewLemmas
pub mod LastLemmas
pub mod NamesLaw
pub mod TakeLemmas
pub mod ReadLemmas
