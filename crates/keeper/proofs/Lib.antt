mod Committing
pub mod Few
mod Gathering
pub mod InARow
mod Sounding
