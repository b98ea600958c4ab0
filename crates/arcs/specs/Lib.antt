pub mod Arcs
pub mod Cursor
pub mod Seeking
pub mod Leaving
