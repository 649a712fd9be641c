pub mod Dropped
pub mod LinePatterns
pub mod Verdict
