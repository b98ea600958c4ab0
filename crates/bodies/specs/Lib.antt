pub mod Rows
pub mod Listed
