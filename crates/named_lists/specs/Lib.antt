pub mod NamedLists
pub mod NumberedLists
pub mod Tables
