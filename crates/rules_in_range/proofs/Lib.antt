pub mod Levels
mod Worked
