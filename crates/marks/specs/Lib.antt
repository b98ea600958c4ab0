pub mod Due
pub mod Ordered
