-- `slow::over` meets its contract: a closure, or the sum of the seconds.
use native.Mathlib.Omega.{arith}
use Rattle.model.specs.Network.{edge, edge_count}
use Rattle.sheet.proofs.SlowLines.{over_shut, over_delayed}
use Rattle.sheet.proofs.slow.over.Goals as goal

pub read-requires : goal.read-requires
unfolding edge_count
read-requires c = omega arith

pub returns-in-Shut : goal.returns-in-Shut
returns-in-Shut c = rw c.in-Shut.is (over_shut (edge c.args.edges.now c.args.i))

pub returns-in-Delayed : goal.returns-in-Delayed
returns-in-Delayed c =
    let a = c.args in
    rw c.in-Delayed.is (over_delayed c.in-Delayed.added _ (edge a.edges.now a.i) c.read.ensures.seconds)
