pub mod Frames
pub mod Readings
pub mod WindowBytes
pub mod Asking
pub mod Answering
pub mod Settling
pub mod Staying
pub mod WindowsThere
pub mod GoingOn
pub mod OneMoreWindow
pub mod Faults
pub mod Unanswered
pub mod OneInFlight
mod Worked
