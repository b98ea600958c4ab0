-- The times as they are written and tallied, one after the other. Assumes nothing.
use Rattle.std.specs.Prelude.{ℕ, ◌+◌, ◌*◌, cond, length}
use Rattle.model.specs.Bytes.{Bytes}
use Rattle.model.specs.Calls.{size_after}
use Rattle.model.specs.declared.Output.{Output}
use Rattle.opened.specs.Room.{Given}
use Rattle.wages.specs.Wages.{max_legs, is_marked, wages_bytes}
use Rattle.wages.specs.declared.Tally.{Tally}

-- The sizes of a time, and of the number and the total behind the times.
abbrev pub time_size : ℕ
time_size = 4

abbrev pub tally_size : ℕ
tally_size = 12

-- The tally with one time more.
unfoldable pub tallied : Tally → ℕ → Tally
tallied t time = record { marked = cond (is_marked time) (t.marked + 1) t.marked; total = cond (is_marked time) t.total (t.total + time) }

-- More than all legs can total.
abbrev pub max_total : ℕ
max_total = 4_294_967_296 * max_legs

-- What a call that no rule before 15 sends back hands back and writes.
abbrev pub WagesGiven : Bytes → Bytes → Bytes → Output → Bytes → Type 0
WagesGiven o b = Given (λ k. size_after k (wages_bytes o b)) (length (wages_bytes o b)) (wages_bytes o b)
