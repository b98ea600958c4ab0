pub mod Old
pub mod Convert
pub mod Parts
