-- `builder::sizes::lists_size` meets its contract. Assumes nothing.
use Prim.Native.Nat.{◌+◌, ◌*◌, ◌≤◌}
use mathlib.Core.Path.{◌≡◌}
use Rattle.model.specs.Lists.{total}
use Rattle.model.specs.Network.{max_nodes}
use Rattle.model.specs.Oracle.{list_size}
use Rattle.emit.specs.Parts.{list_sizes}
use Rattle.builder.proofs.Sums.{left}
use Rattle.builder.proofs.sizes.lists_size.Given as goal

abbrev pub invariant-loop-v : goal.invariant-loop-v
invariant-loop-v l = (l.v ≤ l.n) × (l.sum ≤ list_size max_nodes * l.v) × (total (list_sizes l.n l.counts) ≡ l.sum + left l.counts l.n l.v)
