pub mod Asked
pub mod Asks
pub mod Holds
pub mod Scalars
pub mod Tests
pub mod Truth
pub mod Within
