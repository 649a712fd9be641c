pub mod Spelled
mod Pieces
