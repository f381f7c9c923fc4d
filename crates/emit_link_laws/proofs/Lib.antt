mod BgpPeers
pub mod EmittedPlaces
pub mod Links
mod OspfSpots
pub mod PairedLinks
mod QuotientOrder
