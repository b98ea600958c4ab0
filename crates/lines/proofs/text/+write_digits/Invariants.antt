-- `text::write_digits` calls itself of one place fewer. Assumes nothing.
use Rattle.lines.proofs.text.+write_digits.Given as goal

abbrev pub decreases-write_digits : goal.decreases-write_digits
decreases-write_digits l = l.places
