-- `positions::block_of` meets its contract: the part of a word from bit 16 on.
use native.Mathlib.Omega.{arith}
use borrow.Author.Rules.{rules}
use Rattle.index.specs.Index.{block}
use Rattle.index.proofs.positions.block_of.Goals as goal

pub returns : goal.returns
unfolding block
returns c = (search rules, omega (arith, c.shared_slice_known-1.given c.args.p))
