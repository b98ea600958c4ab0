-- `network::put_head` meets its contract. Assumes nothing.
use native.Mathlib.Omega.{arith}
use mathlib.Core.Path.{sym}
use lib.Seq.{length-take-le}
use Rattle.model.specs.Lists.{total}
use Rattle.model.specs.Contents.{entry_at, network_head}
use Rattle.emit.proofs.Pieces.{wrote_front}
use borrow.Author.Rules.{rules}
use Rattle.convert.proofs.network.put_head.Goals as goal

pub slice_bounds-write_head-end-3 : goal.slice_bounds-write_head-end-3
slice_bounds-write_head-end-3 c = sym (length-take-le network_head c.args.out.now (search rules))

pub write_head-requires : goal.write_head-requires
unfolding entry_at total
write_head-requires c = (omega arith, omega arith, omega arith, length-take-le network_head c.args.out.now (search rules))

pub returns : goal.returns
returns c =
    let a = c.args in
    wrote_front network_head a.out.now c.write_head.new.out _ (search rules) c.write_head.auto.out c.write_head.ensures
