pub mod Passes
pub mod Ready
