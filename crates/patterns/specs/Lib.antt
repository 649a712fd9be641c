pub mod Matching
pub mod Pattern
