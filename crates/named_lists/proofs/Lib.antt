pub mod Apart
pub mod Ascending
pub mod ByNumber
pub mod Entries
pub mod Held
pub mod InPlace
