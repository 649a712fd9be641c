pub mod Kinds
pub mod Parts
pub mod Seen
pub mod Telling
pub mod Waits
pub mod Watching
