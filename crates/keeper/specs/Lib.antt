pub mod Answers
pub mod Collecting
pub mod FewKeys
pub mod Keeping
pub mod Lending
pub mod Sound
pub mod Storing
