-- `gather::gather` meets its contract: gathered is from the starts below p.
use native.Mathlib.Omega.{arith}
use borrow.Author.Rules.{rules}
use Rattle.access.proofs.Gathers.{first, next, last, roads_gathering, wanted_left, alone_gathering}
use Rattle.index.proofs.Laid.{roads_only}
use Rattle.access.proofs.gather.gather.Goals as goal

pub loop-p-init : goal.loop-p-init
loop-p-init c = first _ _ _ c.clear.ensures.members

pub gather_from-requires : goal.gather_from-requires
gather_from-requires c =
    let a = c.args in
    record {
      n_le_max_nodes = (
        search rules,
        search rules,
        omega (arith, c.loop-p.invariant.size, c.clear.auto.work),
        wanted_left _ _ _ c.loop-p.p c.loop-p.work c.loop-p.invariant _ c.count-left.ensures,
        alone_gathering _ _ _ c.loop-p.p c.loop-p.work c.loop-p.invariant a.work.now c.clear.ensures.others c.requires.n_le_max_nodes.3,
      );
      indexed_edges = roads_gathering _ _ _ c.loop-p.p c.loop-p.work c.loop-p.invariant a.edges.now
          (roads_only a.edges.now a.n a.work.now _ _ _ (omega arith) c.clear.ensures.others c.requires.indexed_edges);
    }

pub loop-p-preserved : goal.loop-p-preserved
loop-p-preserved c = next _ _ _ c.loop-p.p c.loop-p.work c.loop-p.invariant (search rules) _ (search rules) (c.gather_from.ensures.members, c.gather_from.ensures.others)

pub returns : goal.returns
returns c =
    let a = c.args in
    let all = last _ _ _ c.loop-p.p c.loop-p.work c.loop-p.invariant (search rules) a.work.now c.clear.ensures.others in record { members = all.0; others = all.1 }
