pub mod BoundedQueue
pub mod Conserved
pub mod Entries
pub mod Hand
pub mod Left
pub mod Known
pub mod Rule
pub mod Steps
