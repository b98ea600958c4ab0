pub mod Outcomes
pub mod CallLaws
pub mod Written
pub mod FarHops
pub mod FarBodies
pub mod AnswerLaws
pub mod DemandLaws
pub mod Demands
