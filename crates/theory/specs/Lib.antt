-- ---- lists, numbers and bytes
pub mod Tests
pub mod RangeLaws
pub mod Scans
pub mod Members
pub mod Extremes
pub mod Splices
pub mod FileLaws
pub mod ReadLaws
pub mod Numbers
pub mod Joined
pub mod Signed
pub mod GridLaws
-- ---- walks and distances
pub mod Walks
pub mod DistanceLaws
pub mod Shorten
pub mod Exact
pub mod Least
-- ---- the far theorem
pub mod Far
pub mod FarGrid
pub mod FarOver
pub mod FarModel
-- ---- seconds and hops
pub mod Keys
pub mod PairModel
-- ---- access and transit nodes
pub mod AccessLaws
pub mod Transit
-- ---- built oracles
pub mod Built
pub mod Firsts
pub mod Passed
pub mod Sound
pub mod Accepted
pub mod Shape
pub mod NetworkFile
pub mod WellShaped
pub mod Audits
pub mod Whole
pub mod AuditBodies
pub mod Given
pub mod Times
pub mod BuiltCalls
-- ---- the way
pub mod Way
pub mod NetWays
pub mod Simple
pub mod PairWays
pub mod Ways
-- ---- other costs
pub mod Slower
