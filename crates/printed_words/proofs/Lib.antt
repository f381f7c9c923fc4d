pub mod Joined
mod LookedUp
