pub mod Share
pub mod Weight
