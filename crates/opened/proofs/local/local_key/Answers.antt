-- `local::local_key` meets its contract.
use native.Mathlib.Omega.{arith}
use mathlib.Core.Path.{refl, sym}
use Rattle.arcs.proofs.Bodies.{plain, plain_arcs}
use Rattle.opened.proofs.OpenLaws.{lent}
use Rattle.opened.proofs.SearchWords.{distance_in, itself_no_time}
use Rattle.opened.proofs.local.local_key.Goals as goal

pub returns-then-s-t : goal.returns-then-s-t
returns-then-s-t c =
    let a = c.args in
    record { key = (rw (← c.if-s-t.true) (sym (itself_no_time a.o.now a.s c.requires.0.shape c.requires.1)), omega arith); others = refl }

pub search_key-requires : goal.search_key-requires
search_key-requires c =
    let k = lent _ _ c.requires.0 _ _ c.oracle_body-edges.ensures
    c.node_count.ensures in (
      k.few,
      k.below _ c.requires.1,
      k.below _ c.requires.2,
      k.room,
      plain _ _ _ k.roads,
      k.below 1
          (omega (arith, c.requires.1, c.requires.2, c.if-s-t.false)),
    )

pub returns : goal.returns
returns c =
    let a = c.args in
    let same = distance_in a.o.now a.s a.t in
    record { key = (rw (same, ← c.oracle_body-edges.ensures, ← c.node_count.ensures) (rw (plain_arcs _) at c.search_key.ensures.key.0), c.search_key.ensures.key.1); others = rw c.node_count.ensures at c.search_key.ensures.others }
