mod Head
mod Steps
mod Joins
mod Bodies
