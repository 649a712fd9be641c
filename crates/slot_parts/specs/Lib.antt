pub mod Account
pub mod Made
pub mod Parts
pub mod Tails
pub mod Tellings
