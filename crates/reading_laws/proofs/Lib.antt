mod AddedItems
mod BgpLines
mod EmptyHeads
mod FormFaults
mod Given
mod Peers
mod StanzaLines
mod TopLines
pub mod WellRead
