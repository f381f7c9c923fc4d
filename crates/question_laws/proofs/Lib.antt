pub mod SameLabels
pub mod Lists
pub mod Corresponding
pub mod SmallVerdicts
pub mod Kept
