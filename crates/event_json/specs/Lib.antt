pub mod Data
pub mod Envelope
pub mod Json
pub mod Moment
pub mod Payload
pub mod Replaced
