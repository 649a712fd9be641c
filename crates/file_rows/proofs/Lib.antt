pub mod ListedKeys
mod Spelled
