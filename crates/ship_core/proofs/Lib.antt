mod Applied
mod Covering
pub mod Prefixes
mod MoreNotes
mod InOrder
mod Worked
mod Living
pub mod Members
mod Reordered
mod Built
mod Leading
mod Slots
mod Passes
mod Working
mod Storing
