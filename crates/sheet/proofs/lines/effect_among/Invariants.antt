-- `lines::effect_among` meets its contract. The loop's invariant: what the lines from k on do after x is what holds.
use mathlib.Core.Path.{◌≡◌}
use Rattle.sheet.specs.Sheet.{holds, Effect.shut}
use Rattle.sheet.specs.Codes.{effect_in, lines_from}
use Rattle.sheet.proofs.Effects.{from}
use Rattle.sheet.proofs.lines.effect_among.Given as goal

abbrev pub invariant-loop-k : goal.invariant-loop-k
invariant-loop-k l = (from l.lines l.i l.end l.k (effect_in l.x) ≡ holds (lines_from l.lines l.first l.end) l.i) × (effect_in l.x ≡ shut → ⊥)
