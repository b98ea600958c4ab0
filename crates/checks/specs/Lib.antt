pub mod Grids
pub mod RuleLists
