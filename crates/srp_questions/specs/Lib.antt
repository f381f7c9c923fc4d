pub mod Answers
pub mod Chains
pub mod Holding
pub mod Laws
pub mod NextHops
pub mod Questions
pub mod Ties
pub mod Walks
