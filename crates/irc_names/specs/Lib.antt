pub mod CaseMapping
pub mod Nick
