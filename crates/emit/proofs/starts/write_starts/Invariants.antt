-- `emit::starts::write_starts` meets its contract. The loop's invariant: the starts from list v on are left to write, the first of them `start`. Assumes
-- nothing.
use Rattle.emit.proofs.Offsets.{starts_from, latest}
use Rattle.emit.proofs.Writing.{Written}
use Rattle.emit.specs.Parts.{starts_of, list_sizes}
use Rattle.model.specs.Oracle.{start_size}
use lib.ListN.{length}
use mathlib.Core.Path.{◌≡◌}
use Prim.Native.Nat.{◌*◌, ◌≤◌}
use Rattle.emit.proofs.starts.write_starts.Given as goal

abbrev pub invariant-loop-v : goal.invariant-loop-v
invariant-loop-v l = (l.v ≤ l.n) × (l.start ≤ latest l.counts l.n l.v) × (length l.out ≡ length l.initial.out) × Written (starts_of (start_size * l.n) (list_sizes l.n l.counts)) (start_size * l.v) l.out
    (starts_from l.counts l.n l.start l.v)
