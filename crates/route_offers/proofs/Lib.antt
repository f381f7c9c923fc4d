pub mod Lengthened
pub mod OfferKeys
pub mod OwnEdges
