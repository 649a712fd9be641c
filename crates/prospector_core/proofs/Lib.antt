pub mod Along
pub mod Finding
mod Comparing
mod Gone
mod Indexing
mod Looping
mod Remembering
mod Scanning
mod Settling
mod Steps
mod Worked
