mod Ticks
mod Worked
