mod Bodies
mod Escapes
mod Fields
pub mod OneReading
pub mod Operations
mod Sizes
mod Spellings
