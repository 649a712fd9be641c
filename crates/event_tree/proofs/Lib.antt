mod Dots
mod Edits
mod Entries
mod PathLaws
mod Puts
mod Smaller
mod Steps
mod Takes
