pub mod CallLaws
pub mod Written
pub mod FarSums
pub mod AnswerLaws
pub mod DemandLaws
pub mod SumLaws
pub mod Demands
