-- `rules::access::lists_gapless` meets its contract. Assumes nothing.
use Rattle.rules.proofs.AccessLayout.{lists_left}
use Rattle.model.specs.Oracle.{start_size, list_part}
use Rattle.model.specs.Lists.{gapless, up_to}
use lib.ListN.{length}
use mathlib.Core.List.{map}
use mathlib.Core.Path.{◌≡◌}
use Prim.Native.Nat.{◌*◌, ◌≤◌}
use Rattle.rules.proofs.access.lists_gapless.Given as goal

abbrev pub invariant-loop-u : goal.invariant-loop-u
invariant-loop-u l = (l.at ≤ length l.b) × (start_size * l.n ≤ length l.b) × (gapless (start_size * l.n) (map (list_part l.b) (up_to l.n)) (length l.b) ≡ lists_left l.b l.at l.u l.n)
