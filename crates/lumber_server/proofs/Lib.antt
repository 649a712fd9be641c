pub mod Moving
pub mod Taking
pub mod Stopping
pub mod Turning
pub mod Hearing
pub mod SoFar
pub mod Visiting
pub mod OneWay
mod Worked
