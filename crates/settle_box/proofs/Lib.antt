pub mod Begins
pub mod Moves
pub mod Names
pub mod Naming
pub mod Orders
pub mod Passing
pub mod Told
