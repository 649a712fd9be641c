pub mod Going
mod Fates
pub mod Worked
