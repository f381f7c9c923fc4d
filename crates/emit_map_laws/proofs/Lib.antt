mod Firsts
mod Imports
mod Lookups
mod Names
mod Origins
mod Routers
mod Verdicts
mod WrittenBack
