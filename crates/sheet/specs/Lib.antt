pub mod Sheet
pub mod Under
pub mod ArcsUnder
pub mod SheetCalls
pub mod Codes
pub mod Spans
pub mod Slow
pub mod BodyRules
