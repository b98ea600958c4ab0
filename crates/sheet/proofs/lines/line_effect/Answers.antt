-- `lines::line_effect` meets its contract: by the first byte.
use Rattle.sheet.specs.Sheet.{line}
use Rattle.sheet.proofs.Effects.{as_closed, as_delayed}
use Rattle.sheet.proofs.lines.line_effect.Goals as goal
use Rattle.sheet.proofs.lines.line_effect.Goals.{in_default-via-in-Some+in_default, in_default-via-in_default}

pub returns-in-Some-Closed : goal.returns-in-Some-Closed
returns-in-Some-Closed c =
    let a = c.args in
    as_closed (line a.lines.now a.k) (rw c.in-Some-Closed.field-0-is at c.in-Some-Closed.ensures)

pub returns-in_default : goal.returns-in_default
returns-in_default c =
    let a = c.args in
    as_delayed (line a.lines.now a.k) c.line_status.result c.read32.result c.line_status.ensures
    (λ e. elim c.in_default.branch [ in_default-via-in-Some+in_default w ↦ cc | in_default-via-in_default w ↦ cc ])
    (unfold line in c.read32.ensures)
