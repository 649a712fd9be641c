pub mod EndLook
pub mod Going
pub mod Looks
pub mod Reading
pub mod Segment
pub mod Step
pub mod Truncation
