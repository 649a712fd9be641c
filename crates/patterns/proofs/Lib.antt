mod Between
mod Characters
mod Finding
mod Reading
pub mod Worked
