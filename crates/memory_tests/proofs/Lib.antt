mod Begun
mod Apart
