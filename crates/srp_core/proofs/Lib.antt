pub mod Imports
pub mod Steps
pub mod KeyOrder
pub mod Offers
pub mod Matching
pub mod EqualKeys
pub mod Filling
pub mod Forwarding
pub mod GroupMatching
pub mod Chains
pub mod QuotientRules
pub mod LiftedLabels
pub mod FoldedLabels
pub mod OspfLabels
pub mod Determined
pub mod Sources
pub mod CandidateLists
pub mod Settled
pub mod Repeats
pub mod LoneNumbers
pub mod LoneOrder
pub mod GraphPartitions
pub mod Colors
pub mod OwnEdges
pub mod Joins
pub mod FoldExists
pub mod LiftExists
pub mod Alike
pub mod AlikeOf
pub mod AlikeQuotient
pub mod LiftSteps
pub mod FoldSteps
pub mod KeyParts
mod Dropped
mod JoinExists
mod Decisions
mod CoarsestExists
mod ExampleLone
mod ExampleLoneSolved
mod ExampleOspf
