-- The laws that the proofs cite.
mod Tested
mod AccessBytes
mod Behind
mod RowBytes
mod TableRows
mod CellLists
mod LastBodies
mod BuiltBodies
mod Outcomes
