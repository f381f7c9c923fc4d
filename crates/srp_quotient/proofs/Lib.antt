pub mod Quotient
mod Rules
