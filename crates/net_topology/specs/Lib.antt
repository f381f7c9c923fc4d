pub mod Alone
pub mod FewPlaces
pub mod Laws
pub mod Peers
pub mod Spots
pub mod Ups
