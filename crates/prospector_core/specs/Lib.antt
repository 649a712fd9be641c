pub mod Changes
pub mod Earlier
pub mod KeyIndex
pub mod KnownFiles
pub mod Limits
pub mod Marks
pub mod Told
pub mod Watching
