-- `positions::entry_in` meets its contract: the word of the index where it stands.
use native.Mathlib.Omega.{arith}
use mathlib.Core.Path.{◌∙◌}
use Rattle.index.proofs.Places.{of_two, place_fits, read_there}
use Rattle.index.proofs.positions.entry_in.Goals as goal

pub overflow_add-i : goal.overflow_add-i
overflow_add-i c = omega (arith, of_two _ _ c.requires.2 _ c.requires.3, place_fits _ _ c.requires.2 _ c.requires.3)

pub block_of-requires : goal.block_of-requires
block_of-requires c = omega (arith, of_two _ _ c.requires.2 _ c.requires.3, place_fits _ _ c.requires.2 _ c.requires.3)

pub next_of-requires : goal.next_of-requires
next_of-requires c = omega (arith, of_two _ _ c.requires.2 _ c.requires.3, place_fits _ _ c.requires.2 _ c.requires.3)

pub returns : goal.returns
returns c =
    let a = c.args in
    let two = of_two a.n a.work.now c.requires.2 a.p c.requires.3 in
    read_there a.n a.work.now c.requires.2 a.p c.requires.3 _ _ _ (c.requires.0 ∙ omega (arith, two)) c.block_of.ensures c.next_of.ensures.0
