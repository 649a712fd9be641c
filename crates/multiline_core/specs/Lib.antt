pub mod Continuing
pub mod Event
pub mod Gathering
pub mod Kind
pub mod Message
pub mod Partition
pub mod Rule
pub mod Step
