mod Ordering
mod Stepping
mod Worked
