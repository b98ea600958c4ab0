-- ---- Dijkstra's method
pub mod DijkstraLaws
pub mod SettleLaws
pub mod RoundsLaws
-- ---- the backward marks
pub mod Turns
