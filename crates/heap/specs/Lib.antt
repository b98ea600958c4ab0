pub mod Words
pub mod Order
pub mod Levels
pub mod Sifts
pub mod Queue
