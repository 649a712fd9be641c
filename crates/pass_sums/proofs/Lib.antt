pub mod Each
pub mod Shares
pub mod Views
pub mod Weights
