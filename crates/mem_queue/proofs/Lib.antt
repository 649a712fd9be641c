pub mod Conserving
pub mod Moves
pub mod Numbering
pub mod Passing
pub mod Told
