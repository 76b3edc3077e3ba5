mod Asking
mod Assembling
mod Refusals
mod Finishing
