-- ---- the words and the laws
pub mod SheetOutcomes
pub mod Keyed
pub mod Changed
pub mod LineLaws
pub mod DrivenLaws
pub mod UnderLaws
pub mod UnderCalls
pub mod EmptySheets
pub mod SheetLaws
pub mod Former
pub mod FormerLaws
-- ---- the statements and the trials
pub mod SheetDemands
pub mod SheetTrials
