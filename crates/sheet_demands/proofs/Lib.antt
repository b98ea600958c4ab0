-- The laws that rest on words which a must-fail edit changes, and the statements on them.
pub mod SlowLaws
pub mod KeyedSteps
pub mod DrivenWays
pub mod OldWays
pub mod BuiltLaws
pub mod SameLaws
-- ---- the statements
pub mod SheetAnswers
