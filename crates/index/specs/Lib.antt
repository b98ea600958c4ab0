pub mod Index
pub mod Grown
pub mod Read
