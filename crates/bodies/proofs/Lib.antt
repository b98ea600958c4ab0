-- The laws that the proofs cite; `Lent`, `CellLists` and `Starting` have those for callers.
pub mod Lent
mod Tables
pub mod CellLists
pub mod Starting
