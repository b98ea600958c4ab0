-- A part of the output, lent and come back. Assumes nothing.
use Prim.Native.Nat.{ℕ, ◌+◌, ◌-◌, ◌≤◌}
use native.Mathlib.Omega.{arith}
use mathlib.Core.Path.{◌≡◌, ◌∙◌, ap}
use borrow.Rule.Slice.PartMut.{mid_of, put_mid}
use lib.ListN.{length}
use Rattle.model.specs.Bytes.{Bytes, splice}
use Rattle.emit.proofs.Pieces.{part_written}

-- These bytes came back: they stand in the output at the place of the part.
pub bytes_written : (a size : ℕ) (out : Bytes) → a + size ≤ length out → (ys bytes : Bytes) → length ys ≡ length (mid_of a (a + size - a) out) → ys ≡ bytes
    → put_mid a (a + size - a) out ys ≡ splice a bytes out
bytes_written a size out h ys bytes k e = part_written a (a + size) out ys (omega arith) h k ∙ ap (λ (b : Bytes). splice a b out) e
