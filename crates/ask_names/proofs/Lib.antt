pub mod Holding
pub mod Items
pub mod Loops
pub mod Marks
pub mod Names
pub mod Naming
