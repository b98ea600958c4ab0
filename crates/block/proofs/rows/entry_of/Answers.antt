-- `rows::entry_of` meets its contract.
use Rattle.model.specs.Rules.{words_needed}
use Rattle.block.proofs.NearLaws.{want_fits}
use Rattle.block.proofs.Entries.{bit_told, entry_far, entry_local}
use native.Mathlib.Omega.{arith}
use mathlib.Core.Path.{◌∙◌}
use Rattle.block.proofs.rows.entry_of.Goals as goal

pub has-requires : goal.has-requires
has-requires c = (omega (arith, c.node_count-n.ensures), want_fits _ _ c.node_count-n.ensures _ c.requires.0)

pub time_of-requires : goal.time_of-requires
unfolding words_needed
time_of-requires c = omega (arith, c.node_count-n.ensures, c.requires.0.room)

pub returns-then-has : goal.returns-then-has
returns-then-has c =
    let told = bit_told _ _ _ _ c.requires.3 _ c.node_count-n.ensures _ c.has.ensures in
    c.time_of.ensures.0 ∙ rw c.node_count-n.ensures (entry_local _ _ _ _ (told ∙ c.if-has.true) c.requires.3)

pub returns : goal.returns
returns c =
    let told = bit_told _ _ _ _ c.requires.3 _ c.node_count-n.ensures _ c.has.ensures in
    entry_far _ _ _ _ _ (told ∙ c.if-has.false) c.far_of.ensures c.key_of.ensures
