pub mod Fate
pub mod Licence
pub mod Rules
pub mod Told
