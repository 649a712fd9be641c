pub mod Accounted
pub mod Entries
pub mod Lists
pub mod Listings
pub mod Openings
pub mod Worked
