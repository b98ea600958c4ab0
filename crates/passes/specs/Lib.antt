pub mod Building
pub mod Covered
pub mod Stands
pub mod BuildingLaws
pub mod Passed
pub mod Sought
