-- What the code reads of a line: its status and its effect, as the code has them; and the lines of a part of a sheet. Assumes nothing.
use Rattle.std.specs.Prelude.{ℕ, ◌-◌, cond, List, map, eqb, Option, Some, None}
use Rattle.model.specs.Lists.{range}
use Rattle.model.specs.Bytes.{Bytes}
use Rattle.sheet.specs.Sheet.{closed_byte, delayed_byte, Line, line, Effect, Effect.shut, Effect.delayed}
use Rattle.sheet.specs.declared.lines.Status.{Status}
use Rattle.sheet.specs.declared.lines.Status.TheVariants.{Closed, Delayed as Slowed}
use Rattle.sheet.specs.declared.lines.Effect.{Effect as Done}
use Rattle.sheet.specs.declared.lines.Effect.TheVariants.{Shut, Delayed}

-- What the first byte of a line says, if it is one of the two.
unfoldable pub status_of : Line → Option Status
status_of l = cond (eqb l.status closed_byte) (Some Closed) (cond (eqb l.status delayed_byte) (Some Slowed) None)

-- An effect as the code has it.
unfoldable pub effect_in : Done → Effect
effect_in Shut = shut
effect_in (Delayed x) = delayed x

-- What holds after x where a later line about the edge does y: a closure stays, and over a delay the later line holds.
unfoldable pub held_after : Effect → Effect → Effect
held_after shut y = shut
held_after (delayed x) y = y

-- The lines from the first to before the end.
unfoldable pub lines_from : Bytes → ℕ → ℕ → List Line
lines_from b first end = map (line b) (range first (end - first))
