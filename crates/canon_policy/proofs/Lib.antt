mod ActPlaces
mod ActsMade
mod ActsSoFar
mod Asked
mod CanonLists
mod Carried
mod Exists
mod Firsts
mod FixedNodes
mod Follows
mod Imports
mod Least
mod LastDenies
mod Leaves
mod Limits
mod ListLaws
mod MadeEntries
mod MadeForms
mod MadeLists
pub mod MapsUniform
mod Numbered
pub mod Outside
mod Plain
mod Printed
mod ProblemMade
pub mod SameSets
mod SmallNumbers
mod Says
mod Settled
mod Splits
mod Tables
mod Told
mod TwoUniverses
mod Uniform
pub mod Values
mod Verdicts
mod Walks
mod WrittenAlike
