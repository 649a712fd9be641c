pub mod Cover
pub mod Fault
pub mod Lead
pub mod Match
pub mod Root
pub mod Sign
pub mod Token
