pub mod AskedBefore
pub mod Cutting
pub mod Going
pub mod OneLife
pub mod Telling
mod Worked
