pub mod Adding
pub mod AskedFiles
pub mod Covering
pub mod Doubled
pub mod Lacking
pub mod Lists
pub mod NativeKeys
pub mod Numbering
mod Parting
pub mod PastFaults
pub mod Telling
pub mod Trying
pub mod TryingFiles
pub mod Unfinished
mod Worked
mod WorkedDoubles
mod WorkedFingerprints
mod WorkedNumbers
