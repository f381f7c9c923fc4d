-- What is printed of a network, which networks are as the grammar has them, and a network without its line numbers.
pub mod Bare
pub mod Printed
pub mod WellFormed
