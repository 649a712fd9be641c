mod Beside
mod Choosing
mod Few
pub mod InARow
mod Moments
mod Opening
mod Worked
mod Anew
mod Appended
