pub mod AllLines
pub mod ClassFacts
pub mod Pieces
pub mod Places
pub mod PrefixSets
pub mod SameWords
pub mod Within
pub mod WordRuns
