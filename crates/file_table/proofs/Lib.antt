mod Deeds
pub mod Puts
mod Standings
mod Steps
mod Worked
