pub mod Command
pub mod LineCount
pub mod Places
pub mod Words
