-- ---- Dijkstra's method
pub mod Dijkstra
pub mod Settle
pub mod Rounds
-- ---- the backward marks
pub mod Marks
pub mod Pass
pub mod Searches
-- ---- a search that stops early
pub mod Stops
