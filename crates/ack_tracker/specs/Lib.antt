pub mod Covered
pub mod FileState
pub mod Files
pub mod Keys
pub mod Tracked
