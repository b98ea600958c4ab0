-- `blocks::build_any` meets its contract: the first blocks that fit.
use Prim.Native.Nat.{◌^◌, ◌<◌, ◌≤◌}
use native.Mathlib.Omega.{arith}
use Rattle.std.proofs.lemmas.Nat.{pow_pos}
use Rattle.std.proofs.Math.Pow.{pow_mono}
use Rattle.model.specs.Network.{edge_count}
use Rattle.index.proofs.blocks.build_any.Goals as goal

pub build_by-requires-clause-edges_bound : goal.build_by-requires-clause-edges_bound
unfolding edge_count
build_by-requires-clause-edges_bound c =
    let k = c.loop-doublings.doublings in
    let low : 0 < 2 ^ k = pow_pos k in
    let high : 2 ^ k ≤ 8192 = pow_mono {i = k} {j = 13} (omega arith) in
    (omega arith, omega arith, omega arith, omega arith, omega arith)
