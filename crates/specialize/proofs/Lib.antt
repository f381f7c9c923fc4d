pub mod AddNothing
pub mod Entries
pub mod Found
pub mod Known
pub mod Printable
pub mod Sessions
pub mod Verdicts
pub mod Within
