mod Events
mod Seating
mod Working
mod Outcomes
