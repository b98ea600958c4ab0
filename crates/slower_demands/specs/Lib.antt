pub mod Raised
pub mod SlowerLaws
pub mod SlowerDemands
pub mod SlowerTrials
