pub mod Cut
pub mod Cutting
pub mod Ends
pub mod Lines
pub mod Row
pub mod Terminator
