pub mod Closings
pub mod Entries
pub mod Events
pub mod Standing
pub mod Tables
