-- The arcs of a network's bodies, as they are and under a sheet: what the rules give of them, and which leave a node. Assumes nothing.
use Prim.Native.Nat.{ℕ}
use mathlib.Core.Path.{◌≡◌}
use mathlib.Core.Bool.{false}
use mathlib.Core.List.{List, []}
use borrow.Author.Tests.{eq-eqb, eqb-true}
use Rattle.model.specs.Bytes.{Bytes}
use Rattle.model.specs.Walk.{Arc}
use Rattle.model.specs.Network.{edges, some_edge_broken}
use Rattle.theory.specs.Members.{filter→, →filter}
use Rattle.theory.specs.Sound as sound
use Rattle.theory.specs.Walks.{Within, Costs, Positive}
use Rattle.algorithms.specs.Dijkstra.{Out}
use Rattle.index.specs.Index.{IndexedEdges}
use Rattle.sheet.specs.ArcsUnder.{arcs_under}
use Rattle.sheet.proofs.Noting.{spanned_none}
use Rattle.sheet.proofs.Ground as ground
use Rattle.arcs.specs.Arcs.{arcs_in, leaves, leaving}
use Rattle.arcs.specs.Leaving.{EdgesUnder}

module _ (n : ℕ) (b : Bytes) (h : some_edge_broken n b ≡ false) where
  pub arcs_within : Within n (arcs_in b)
  unfolding arcs_in
  arcs_within = sound.arcs_within n (edges b) (sound.each_fine n b h)

  pub arcs_cost : Costs sound.max_cost (arcs_in b)
  unfolding arcs_in
  arcs_cost = sound.arcs_cost n (edges b) (sound.each_fine n b h)

  pub arcs_positive : Positive (arcs_in b)
  unfolding arcs_in
  arcs_positive = sound.arcs_positive n (edges b) (sound.each_fine n b h)

-- The same of the arcs under a sheet, together.
pub record Bounded (n : ℕ) (arcs : List Arc) : Type 0 where
  pub within : Within n arcs
  pub cost : Costs sound.max_cost arcs
  pub positive : Positive arcs

pub arcs_bounded : (edges lines : Bytes) (n : ℕ) (w : List ℕ) → EdgesUnder edges lines n w → Bounded n (arcs_under edges lines)
arcs_bounded edges lines n w g =
    let e = g.roads.ends in
    record {
      within = ground.arcs_within edges lines n e g.quick;
      cost = ground.arcs_cost edges lines n e g.quick;
      positive = ground.arcs_positive edges lines n e g.quick;
    }

-- ---- no sheet: no lines
pub plain : (edges : Bytes) (n : ℕ) (w : List ℕ) → IndexedEdges edges n w → EdgesUnder edges [] n w
plain edges n w r = record { roads = r; spanned = spanned_none n w; quick = ground.plain_slow edges n r.ends }

pub plain_arcs : (edges : Bytes) → arcs_under edges [] ≡ arcs_in edges
unfolding arcs_in
plain_arcs edges = ground.no_lines edges

pub leaving_out : (u : ℕ) (arcs : List Arc) → Out arcs u (leaving u arcs)
unfolding leaving leaves
leaving_out u arcs = record {
  leave = λ a m. eqb-true a.from u (filter→ (leaves u) arcs m).1;
  known = λ a m. (filter→ (leaves u) arcs m).0;
  every = λ a m e. →filter (leaves u) arcs m (eq-eqb a.from u e);
}
