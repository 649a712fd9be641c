mod Counts
mod Eaches
mod Ends
mod Findings
mod GlobLists
mod Sections
mod Tries
mod Unreads
