pub mod ByteOrder
mod Decimals
pub mod Keyed
