-- `form::line_broken` meets its contract: by the first byte.
use mathlib.Core.Path.{refl, ap}
use mathlib.Core.Bool.{not}
use Prim.Native.Nat.{ℕ}
use lib.Dec.{eqb}
use Rattle.sheet.specs.Sheet.{line}
use Rattle.sheet.proofs.Forms.{by_status}
use Rattle.sheet.proofs.form.line_broken.Goals as goal

pub returns-in-Some-Delayed : goal.returns-in-Some-Delayed
returns-in-Some-Delayed c = by_status (line c.args.lines.now c.args.k) _ _ (rw c.in-Some-Delayed.field-0-is at c.in-Some-Delayed.ensures) refl

pub returns-in-Some-Closed : goal.returns-in-Some-Closed
unfolding line
returns-in-Some-Closed c =
    by_status (line c.args.lines.now c.args.k) _ _ (rw c.in-Some-Closed.field-0-is at c.in-Some-Closed.ensures)
    (ap (λ (x : ℕ). not (eqb x 0)) c.read32.ensures)

pub returns-in-None : goal.returns-in-None
returns-in-None c = by_status (line c.args.lines.now c.args.k) _ _ c.in-None.ensures refl
