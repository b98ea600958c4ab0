-- `crossings::put_crossings` meets its contract: the edges at the nodes below v that lie inside are seen to.
use native.Mathlib.Omega.{arith}
use mathlib.Core.Path.{refl, sym, ap, ◌∙◌}
use borrow.Author.Rules.{rules}
use lib.ListN.{length}
use Rattle.model.specs.Network.{node_count}
use Rattle.access.proofs.Squares.{inside_first, inside_next, outside_next, crossings_put}
use Rattle.words.proofs.Stays.{only_then}
use Rattle.index.proofs.Laid.{roads_only}
use Rattle.access.proofs.crossings.put_crossings.Goals as goal
use Rattle.access.proofs.crossings.put_crossings.Goals.{then-has, else-has}

pub clear-requires : goal.clear-requires
clear-requires c = omega (arith, c.requires.n_value.2, c.requires.n_value.3, c.requires.n_value.4)

pub loop-v-init : goal.loop-v-init
loop-v-init c = (refl, inside_first _ _ _ _ _ _)

pub has-requires : goal.has-requires
unfolding node_count
has-requires c = omega (arith, c.requires.n_value.0)

pub put_crossings_at-requires : goal.put_crossings_at-requires
put_crossings_at-requires c =
    let a = c.args in
    record {
      n_value = (c.requires.n_value.0, c.requires.n_value.1, omega (arith, c.loop-v.invariant.0, c.clear.auto.work, c.requires.n_value.2), search rules, c.requires.n_value.4);
      indexed_edges = roads_only a.edges.now a.n a.work.now c.loop-v.work _ _ c.requires.n_value.4
          (only_then _ _ a.work.now _ c.loop-v.work c.clear.ensures.others c.loop-v.invariant.1.others) c.requires.indexed_edges;
    }

pub loop-v-preserved : goal.loop-v-preserved
loop-v-preserved c = elim c.if-has.branch [
  | then-has w ↦ (
    ap length w.work-is ∙ (w.put_crossings_at.auto.work ∙ c.loop-v.invariant.0),
    rw w.work-is (inside_next _ _ _ _ _ _ c.loop-v.v c.loop-v.work c.loop-v.invariant.1 _ w.put_crossings_at.ensures),
  )
  | else-has w ↦ (
    ap length w.work-is ∙ c.loop-v.invariant.0,
    rw w.work-is (outside_next _ _ _ _ _ _ c.loop-v.v c.loop-v.work c.loop-v.invariant.1 (sym w.if-has.false ∙ c.has.ensures)),
  )
]

pub returns : goal.returns
returns c =
    let a = c.args in
    record { members = λ grid cell r on_ground q. crossings_put on_ground r cell _ q a.n c.requires.n_value.0 a.k _ c.clear.ensures.members c.loop-v.v (search rules) c.loop-v.work c.loop-v.invariant.1; others = only_then _ _ a.work.now _ c.loop-v.work c.clear.ensures.others c.loop-v.invariant.1.others }
