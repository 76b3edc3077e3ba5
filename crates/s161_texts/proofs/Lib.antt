mod Listed
mod Unassembled
mod Asking
mod Driving
mod Finishing
mod Printing
mod Scheduling
mod Sharing
