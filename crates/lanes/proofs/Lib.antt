mod Begins
mod Hands
mod Swapping
mod Keeping
mod Passing
pub mod Visiting
