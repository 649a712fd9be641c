mod Answered
pub mod AskedOnce
mod Compared
pub mod CutAskings
mod OneLife
pub mod Pieces
mod Worked
mod WorkedAgain
