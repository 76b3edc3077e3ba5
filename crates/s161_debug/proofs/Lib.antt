pub mod Asking
mod Going
mod Jumping
mod Lasting
mod Numbers
mod Passing
mod Reading
mod Results
mod Spaces
mod Texts
mod Words
