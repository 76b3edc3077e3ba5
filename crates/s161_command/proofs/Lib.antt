mod Accepting
mod Reading
mod Linking
mod Naming
mod Losing
mod Delaying
mod Together
mod Repeating
