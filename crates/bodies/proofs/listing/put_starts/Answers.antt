-- `bodies::listing::put_starts` meets its contract. Assumes nothing.
use borrow.Author.Rules.{rules}
use Prim.Native.Nat.{◌*◌}
use mathlib.Core.Path.{sym}
use lib.Seq.{length-take-le}
use Rattle.model.specs.Oracle.{start_size}
use Rattle.bodies.proofs.listing.put_starts.Goals as goal

pub slice_bounds-write_starts-end-2 : goal.slice_bounds-write_starts-end-2
slice_bounds-write_starts-end-2 c =
    let a = c.args in sym (length-take-le (start_size * a.n) a.body.now (search rules))

pub write_starts-requires : goal.write_starts-requires
write_starts-requires c =
    let a = c.args in
    (rw c.counts.ensures c.requires.2, length-take-le (start_size * a.n) a.body.now c.requires.1)

pub returns : goal.returns
returns c = rw (c.write_starts.ensures, c.counts.ensures)
