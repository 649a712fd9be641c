mod Covering
mod Items
mod Law
mod Matching
mod Plain
mod Rooting
mod Signs
mod Slashes
