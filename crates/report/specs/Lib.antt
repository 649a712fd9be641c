pub mod Escape
pub mod ExitStatus
pub mod Part
pub mod Passings
pub mod Report
pub mod Writing
