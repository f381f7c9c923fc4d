mod BgpEdges
mod Directions
mod LinkEdges
mod LinkItems
mod Originators
mod OspfEdges
mod Problem
mod ProtocolOf
