-- The laws that the proofs cite.
mod Paying
mod Results
-- What document 02 promises of the sheet beyond `WagesDemands`, and the laws behind it.
pub mod KeptLaws
pub mod Written
pub mod TimesLaws
pub mod WagesTimes
