-- `chains::build_index` meets its contract: what is written is the index and nothing else.
use Prim.Native.Nat.{◌≤◌}
use native.Mathlib.Omega.{arith}
use mathlib.Core.Path.{refl, ◌∙◌}
use Rattle.index.proofs.Laid.{no_index, laid_index}
use Rattle.index.proofs.chains.build_index.Goals as goal

pub returns-then-n-lt2 : goal.returns-then-n-lt2
returns-then-n-lt2 c = record { roads = no_index _ _ c.requires.edges_value _ c.requires.n_le_max_nodes.1 c.if-n-lt2.true; before = refl; behind = refl }

pub returns : goal.returns
returns c =
    let a = c.args in
    let two : 2 ≤ a.n = omega (arith, c.if-n-lt2.false) in
    let all = laid_index a.edges.now a.n c.requires.edges_value _ a.work.now _ (c.index_at-at.ensures ∙ omega (arith, two)) two c.requires.n_le_max_nodes.1
    c.build.auto.ix c.build.ensures in record { roads = all.0; before = all.1.0; behind = all.1.1 }
