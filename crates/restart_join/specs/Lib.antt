pub mod Joining
pub mod PathOrder
pub mod Starts
pub mod Steps
