-- `text::write_text` meets its contract. Assumes nothing.
use native.Mathlib.Omega.{arith}
use Rattle.lines.proofs.text.write_text.Goals as goal

pub put-requires : goal.put-requires
put-requires c = omega (arith, c.requires.fits)
