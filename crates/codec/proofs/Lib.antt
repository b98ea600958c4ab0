mod Writes
pub mod AnyRange
