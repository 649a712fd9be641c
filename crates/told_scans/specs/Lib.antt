pub mod CutOff
pub mod Exact
pub mod FolderOn
pub mod OnlyAsked
pub mod Partial
pub mod ToldScan
pub mod ToldScans
