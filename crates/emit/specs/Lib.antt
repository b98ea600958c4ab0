pub mod Members
pub mod MemberLaws
pub mod Parts
pub mod PartLaws
pub mod Records
pub mod RecordLaws
pub mod Sinks
