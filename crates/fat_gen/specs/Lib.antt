pub mod Cables
pub mod FatTrees
pub mod Laws
pub mod PortTables
pub mod Switches
pub mod SwitchLines
