pub mod Accounted
pub mod Adjoining
pub mod Cuts
pub mod Epochs
pub mod Made
pub mod Risen
pub mod Rows
pub mod Seen
pub mod Shown
pub mod Singles
pub mod Slots
pub mod Tails
pub mod Tellings
pub mod Together
pub mod Within
mod Worked
