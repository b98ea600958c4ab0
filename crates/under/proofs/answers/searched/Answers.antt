-- `answers::searched` meets its contract.
use native.Mathlib.Omega.{arith}
use mathlib.Core.Path.{◌∙◌}
use Rattle.theory.specs.Passed.{all_shaped}
use Rattle.opened.proofs.OpenLaws.{lent}
use Rattle.under.proofs.Networks.{local_under}
use Rattle.under.proofs.answers.searched.Goals as goal

pub search_key-found-requires : goal.search_key-found-requires
search_key-found-requires c =
    let k = lent _ _ c.requires.opened.0 _ _ c.oracle_body.ensures c.node_count.ensures in
    (k.few, k.below _ c.requires.opened.1, k.below _ c.requires.opened.2, k.room, rw (c.oracle_body.ensures, c.node_count.ensures) c.requires.edges_under, k.below 1 (omega (arith, c.requires.opened.1, c.requires.opened.2, c.requires.opened.3)))

pub returns : goal.returns
returns c =
    let a = c.args in
    let found = rw (c.oracle_body.ensures, c.node_count.ensures) at c.search_key-found.ensures.key.0 in record { answer = c.answer_of.ensures ∙ local_under a.o.now a.lines.now (all_shaped _ c.requires.opened.0.shape) c.requires.edges_under.quick a.s a.t _ c.requires.opened.1 found; others = rw c.node_count.ensures at c.search_key-found.ensures.others }
