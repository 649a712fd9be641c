pub mod Body
pub mod BodyOf
pub mod Tokens
