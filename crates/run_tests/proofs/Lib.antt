mod Passes
mod Readies
