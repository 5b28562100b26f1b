pub mod RankPlaces
pub mod RankSets
pub mod WordCuts
pub mod SymbolRun
pub mod Spelling
pub mod TokenTable
pub mod TokenBytes
pub mod TokensRead
pub mod PendingTokens
pub mod ModesRead
pub mod SpelledWords
pub mod HighestWords
pub mod NamesRead
mod Rows
