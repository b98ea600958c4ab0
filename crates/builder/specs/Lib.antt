pub mod Plan
pub mod Laid
pub mod Given
