mod Meant
mod Canonical
