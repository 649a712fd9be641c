pub mod Answers
pub mod AskedAgain
pub mod Asking
pub mod Key
pub mod Reading
