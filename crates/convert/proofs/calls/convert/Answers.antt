-- `calls::convert` meets its contract. Assumes nothing.
use native.Mathlib.Omega.{arith}
use Rattle.theory.specs.Joined.{whole_contents}
use Rattle.model.specs.Contents.{network_edition, network_entries}
use mathlib.Core.Path.{refl}
use Rattle.reader.proofs.Kept.{none_broken, number_broken, some_rule}
use Rattle.convert.proofs.Passing.{old_passed, old_contents, convert_refused, bodies_passed, convert_given}
use Rattle.convert.proofs.calls.convert.Goals as goal

pub returns-in-Err : goal.returns-in-Err
returns-in-Err c = convert_refused _ _ (number_broken c.old_refusal.ensures c.in-Err.is c.number.ensures) (some_rule c.in-Err.broken c.number.ensures) _

pub read-c-requires : goal.read-c-requires
read-c-requires c =
    let passed = old_passed _ _ (none_broken c.old_refusal.ensures c.in_default.is) refl in
    (omega arith, whole_contents network_edition network_entries _ passed.contents)

pub body-requires : goal.body-requires
body-requires c = old_contents _ _ (none_broken c.old_refusal.ensures c.in_default.is) refl c.read-c.ensures _ (omega arith)

pub body-requires-2 : goal.body-requires-2
body-requires-2 c = old_contents _ _ (none_broken c.old_refusal.ensures c.in_default.is) refl c.read-c.ensures _ (omega arith)

pub body-requires-3 : goal.body-requires-3
body-requires-3 c = old_contents _ _ (none_broken c.old_refusal.ensures c.in_default.is) refl c.read-c.ensures _ (omega arith)

pub leave_out-requires : goal.leave_out-requires
leave_out-requires c = bodies_passed _ _ (none_broken c.old_refusal.ensures c.in_default.is) _ _ _ c.body.ensures c.body-2.ensures c.body-3.ensures refl

pub returns : goal.returns
returns c = convert_given _ _ (none_broken c.old_refusal.ensures c.in_default.is) _ _ _ c.body.ensures c.body-2.ensures c.body-3.ensures refl _ _ _ c.leave_out.ensures
