mod Carried
pub mod GroupNames
mod OneAnswer
pub mod OneCarry
pub mod OneCheck
pub mod OneOfSolution
mod ReadBack
mod SidesApart
