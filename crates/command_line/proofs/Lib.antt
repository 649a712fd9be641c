pub mod Plain
mod Rows
mod Taken
