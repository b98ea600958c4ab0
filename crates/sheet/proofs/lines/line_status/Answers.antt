-- `lines::line_status` meets its contract: by the first byte.
use native.Mathlib.Omega.{arith}
use Rattle.sheet.specs.Sheet.{line}
use Rattle.sheet.proofs.Effects.{status_closed, status_slowed, status_none}
use Rattle.sheet.proofs.lines.line_status.Goals as goal

pub returns-in-1 : goal.returns-in-1
returns-in-1 c =
    let a = c.args in
    status_closed (line a.lines.now a.k) c.byte.result (unfold line in c.byte.ensures.0) c.in-1.is

pub returns-in-2 : goal.returns-in-2
returns-in-2 c =
    let a = c.args in
    status_slowed (line a.lines.now a.k) c.byte.result (unfold line in c.byte.ensures.0) c.in-2.is

pub returns-in_default : goal.returns-in_default
returns-in_default c =
    let a = c.args in
    status_none (line a.lines.now a.k) c.byte.result (unfold line in c.byte.ensures.0) (λ e. omega arith) (λ e. omega arith)
