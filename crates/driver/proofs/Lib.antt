pub mod Emitting
mod Universe
