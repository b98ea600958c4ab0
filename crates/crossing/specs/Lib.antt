-- The definitions that the contracts cite, and the laws about them that callers cite.
pub mod Sets
pub mod SetLaws
pub mod Ground
pub mod Cells
pub mod Beside
pub mod AccessFlags
pub mod FirstNodes
