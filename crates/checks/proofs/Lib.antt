-- The laws that the proofs cite, and those of callers.
pub mod CheckOrder
pub mod RulesKept
pub mod NameLists
pub mod OracleGrid
pub mod AfterCall
