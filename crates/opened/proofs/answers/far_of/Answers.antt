-- `answers::far_of` meets its contract.
use Rattle.tables.specs.Oracles.{has_list, has_table, far_of}
use Rattle.theory.specs.Passed.{all_shaped}
use Rattle.opened.proofs.answers.far_of.Goals as goal

pub far_answer-requires : goal.far_answer-requires
far_answer-requires c =
    let k = all_shaped _ c.requires.0 in
    (rw (c.transit_count.ensures, c.oracle_body.ensures) (has_list _ k _ c.requires.1), rw (c.transit_count.ensures, c.oracle_body.ensures) (has_list _ k _ c.requires.2), rw (c.transit_count.ensures, c.oracle_body-2.ensures) (has_table _ k))

pub returns : goal.returns
returns c =
    let a = c.args in
    rw (far_of a.o.now a.s a.t, ← c.transit_count.ensures, ← c.oracle_body.ensures, ← c.oracle_body-2.ensures) c.far_answer.ensures
