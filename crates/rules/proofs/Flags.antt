-- What the code's `||` answers: the first flag where it holds, else the second. Assumes nothing.
use mathlib.Core.Path.{◌≡◌}
use mathlib.Core.Bool.{Bool, true, false, ◌||◌}

pub or_first : {a : Bool} (b : Bool) → a ≡ true → a ≡ a || b
or_first b e = rw e

pub or_second : {a : Bool} (b : Bool) → a ≡ false → b ≡ a || b
or_second b e = rw e
