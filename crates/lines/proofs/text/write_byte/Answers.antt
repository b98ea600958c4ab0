-- `text::write_byte` meets its contract. Assumes nothing.
use Rattle.lines.proofs.Chains.{wrote_byte}
use native.Mathlib.Omega.{arith}
use Rattle.lines.proofs.text.write_byte.Goals as goal

pub bounds-out-at : goal.bounds-out-at
bounds-out-at c = omega (arith, c.requires.fits)

pub overflow_add-result : goal.overflow_add-result
overflow_add-result c = omega (arith, c.requires.fits)

pub returns : goal.returns
returns c = wrote_byte c.requires
