mod Faults
mod Joined
