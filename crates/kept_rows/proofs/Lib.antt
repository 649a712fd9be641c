pub mod Acknowledging
pub mod Backing
pub mod Begun
pub mod Closings
pub mod Draining
pub mod Forgotten
pub mod Growing
pub mod Images
pub mod Joining
pub mod Keys
pub mod Links
pub mod Showing
pub mod Storing
pub mod Supposing
pub mod Worked
mod Lives
mod Older
mod Refused
mod Removed
mod Undrained
mod WorkedAskings
mod WorkedPair
mod WorkedPremises
