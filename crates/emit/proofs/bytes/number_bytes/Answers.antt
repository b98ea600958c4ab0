-- `emit::bytes::number_bytes` meets its contract. Assumes nothing.
use native.Mathlib.Omega.{arith}
use mathlib.Core.Path.{◌≡◌, ◌∙◌}
use Prim.Native.Nat.{◌/◌, ◌%◌}
use Rattle.model.specs.Bytes.{bytes16}
use Rattle.emit.proofs.bytes.number_bytes.Goals as goal

pub returns : goal.returns
unfolding bytes16
returns c =
    let x = c.args.x in
    let a : x % 65536 % 256 ≡ x % 256 = omega arith in
    let b : x % 65536 / 256 % 256 ≡ x / 256 % 256 = omega arith in
    c.to_le_bytes.ensures ∙ rw (a, b)
