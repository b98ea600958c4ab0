mod Values
mod Leasts
mod Counts
mod Rows
