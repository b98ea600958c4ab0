-- `emit::copy::put` meets its contract. The loop's invariant: the first i bytes stand, and those from i on are left. Assumes nothing.
use Prim.Native.Nat.{◌+◌, ◌<◌, ◌≤◌}
use native.Mathlib.Omega.{arith}
use mathlib.Core.Path.{◌≡◌, refl}
use lib.ListN.{length, length-set, drop_of_length-le}
use Rattle.emit.proofs.Writing.{from_start, from_next, from_end, byte_next}
use borrow.Author.Rules.{rules}
use Rattle.emit.proofs.copy.put.Goals as goal

pub loop-i-init : goal.loop-i-init
loop-i-init c =
    let z : c.args.at + 0 ≡ c.args.at = omega arith in (refl, search rules, rw z (from_start refl c.requires))

pub loop-i-preserved : goal.loop-i-preserved
loop-i-preserved c =
    let a = c.args in
    let h : c.loop-i.i < length a.bytes.now = omega arith in
    let k : a.at + c.loop-i.i < length c.loop-i.out = omega arith in
    let next = byte_next a.bytes.now c.loop-i.out c.loop-i.i a.at h k in
    (c.loop-i.invariant.0, simp length-set c.loop-i.invariant.1, from_next next.0 c.loop-i.invariant.2 next.1)

pub returns : goal.returns
returns c =
    let h : length c.args.bytes.now ≤ c.loop-i.i = omega arith in
    record { ends = refl; spliced = (from_end (drop_of_length-le c.args.bytes.now h) c.loop-i.invariant.2).spliced }
