pub mod Joined
mod Nodes
mod Texts
mod Truths
mod Worked
