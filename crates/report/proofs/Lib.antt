mod Eaches
mod Escapes
mod Ordered
mod Parts
mod Writings
