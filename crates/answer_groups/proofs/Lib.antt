mod CanonLaws
mod CanonLines
pub mod Canonizing
pub mod Compressing
pub mod NamedCommunities
mod OneAnswer
mod OneCanon
mod OneGrouping
mod OnePlan
