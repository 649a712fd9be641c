mod Rules
mod Worked
