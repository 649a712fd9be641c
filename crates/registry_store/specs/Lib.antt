pub mod Answer
pub mod Appending
pub mod Beside
pub mod Choice
pub mod Committing
pub mod Settled
pub mod Sides
pub mod Standing
