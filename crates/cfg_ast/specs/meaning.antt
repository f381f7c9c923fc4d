-- What a network means: its interfaces, links, lists, maps and classes, and its faults.
pub mod Addresses
pub mod Classes
pub mod Lists
pub mod Meaning
pub mod Policy
pub mod PolicyFaults
pub mod PrefixLists
pub mod RouterFaults
pub mod Topology
