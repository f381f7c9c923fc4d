pub mod Changed
mod ChangedNeighbors
mod Indexed
