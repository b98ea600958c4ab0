-- ---- seconds and hops
pub mod KeyLaws
pub mod PairLaws
-- ---- access nodes
pub mod AccessExact
-- ---- built oracles
pub mod FarTimes
pub mod ExactTimes
-- ---- the way
pub mod WayPairs
-- ---- other costs
pub mod SlowerLaws
