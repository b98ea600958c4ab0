-- What document 02 promises of the converter, and the laws behind it.
pub mod Copied
pub mod Converted
pub mod OldOracles
pub mod SheetLines
pub mod ConvertedSheets
pub mod ConvertOutcomes
pub mod ConvertLaws
pub mod UnderSheets
pub mod ConvertDemands
pub mod ConvertTrials
