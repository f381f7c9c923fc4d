mod BgpOrigins
mod Finds
mod Origins
mod OspfOrigins
pub mod Starts
