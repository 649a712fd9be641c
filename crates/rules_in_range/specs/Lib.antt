pub mod Conditions
pub mod Processors
