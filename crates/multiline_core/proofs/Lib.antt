mod Closing
mod Going
mod Joining
mod Keeping
mod Lines
mod Natural
mod Stepping
mod Worked
