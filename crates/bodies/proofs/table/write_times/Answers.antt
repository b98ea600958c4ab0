-- `bodies::table::write_times` meets its contract. Assumes nothing.
use borrow.Author.Rules.{rules}
use Prim.Native.Nat.{ℕ, ◌*◌}
use mathlib.Core.Path.{◌∙◌, ap}
use Rattle.model.specs.Oracle.{value_size}
use Rattle.words.proofs.Windows.{part_length}
use Rattle.bodies.proofs.Lent.{bytes_written}
use Rattle.bodies.proofs.table.write_times.Goals as goal

pub write_row-requires : goal.write_row-requires
write_row-requires c =
    let a = c.args in
    let room = part_length a.at (value_size * a.t) a.out.now c.requires.2 in
    (search rules, search rules, room ∙ rw c.region.ensures.0 (ap (λ (m : ℕ). value_size * m) c.requires.1))

pub returns : goal.returns
returns c =
    let a = c.args in
    bytes_written a.at (value_size * a.t) a.out.now c.requires.2 c.write_row.new.out _ c.write_row.auto.out
    (rw c.region.ensures.0 at c.write_row.ensures)
