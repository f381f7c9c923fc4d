mod Left
mod Linked
mod Spares
mod Standings
mod Staying
