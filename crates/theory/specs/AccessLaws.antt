-- Access nodes in terms of walks: the listed ones are exactly those of document 01's words. Assumes nothing.
use Rattle.std.specs.Prelude.{ℕ, ◌+◌, ◌<◌, ◌≡◌, refl, ◌↔◌}
use native.Mathlib.Omega.{arith}
use Rattle.std.proofs.Common.{sym, ap, true≢false}
use Rattle.std.proofs.Math.Bool.{true}
use mathlib.Core.List.{List, Memᴰ}
use Rattle.model.specs.Pair.{Pair, add}
use Rattle.model.specs.Walk.{Arc, Least, LeastPair}
use Rattle.model.specs.Distance.{Distance, unreachable, finite, plus, agree}
use Rattle.model.specs.Network.{Edge, Network, order, timed_arcs, arcs, distance}
use Rattle.model.specs.Grid.{Grid, Cell}
use Rattle.model.specs.Access.{crossing_end, crosses, crossings, between}
use Rattle.theory.specs.Tests.{eqb-true, true-eqb}
use Rattle.theory.specs.Members.{filter→, map→}
use Rattle.theory.specs.FarModel.{exact, distance_least}

-- a lies on a least walk from p to q: the pairs are d(p, a), d(a, q) and their sum d(p, q). Arcs cost their seconds.
pub record OnLeastPair (timed : List Arc) (p q a : ℕ) : Type 0 where
  pub i : Pair
  pub j : Pair
  pub before : LeastPair timed p a i
  pub after : LeastPair timed a q j
  pub whole : LeastPair timed p q (add i j)

-- The same by keys.
pub record OnLeast (arcs : List Arc) (p q a : ℕ) : Type 0 where
  pub i : ℕ
  pub j : ℕ
  pub before : Least arcs p a i
  pub after : Least arcs a q j
  pub whole : Least arcs p q (i + j)

-- "An access place of C is a crossing place a of inner for which some crossing place p of C and some crossing place q of outer have d(p, q) finite
-- and d(p, a) + d(a, q) = d(p, q)." `cs` are the nodes' cells in the grid.
pub record AccessNode (net : Network) (grid : Grid) (cs : List Cell) (c : Cell) (a : ℕ) : Type 0 where
  pub inner : Memᴰ a (crossings cs net.edges grid.inner c)
  pub p : ℕ
  pub q : ℕ
  pub start : Memᴰ p (crossings cs net.edges 0 c)
  pub end : Memᴰ q (crossings cs net.edges grid.outer c)
  pub on : OnLeastPair (timed_arcs net) p q a

-- Three distances of which the first two add up to the third, and all are finite.
record Adds (x y z : Distance) : Type 0 where
  i : ℕ
  j : ℕ
  first : x ≡ finite i
  second : y ≡ finite j
  whole : z ≡ finite (i + j)

adds : (x y z : Distance) → agree (plus x y) z ≡ true → Adds x y z
unfolding agree plus
adds (finite i) (finite j) (finite k) h = record { i = i; j = j; first = refl; second = refl; whole = ap finite (sym (eqb-true h)) }
adds (finite i) (finite j) unreachable h = absurd (true≢false (sym h))
adds (finite i) unreachable z h = absurd (true≢false (sym h))
adds unreachable y z h = absurd (true≢false (sym h))

module _ (net : Network) (ends : (e : Edge) → Memᴰ e net.edges → (e.first < order net) × (e.second < order net)) where
  least_of : {u t n : ℕ} → u < order net → distance net u t ≡ finite n → Least (arcs net) u t n
  least_of {u} {t} h e = rw e at (exact net ends u t h)

  pub between_walks : (p q a : ℕ) → p < order net → a < order net → (between (distance net) p q a ≡ true) ↔ OnLeast (arcs net) p q a
  unfolding between
  between_walks p q a hp ha = (
    λ h. let s = adds (distance net p a) (distance net a q) (distance net p q) h in
        record { i = s.i; j = s.j; before = least_of hp s.first; after = least_of ha s.second; whole = least_of hp s.whole },
    λ o. unfold agree plus in rw (distance_least net ends hp o.before, distance_least net ends ha o.after, distance_least net ends hp o.whole)
        (true-eqb {m = o.i + o.j} refl),
  )

  -- A crossing node is a node.
  pub crossing_node : (cs : List Cell) (r : ℕ) (c : Cell) {x : ℕ} → Memᴰ x (crossings cs net.edges r c) → x < order net
  unfolding crossings crossing_end
  crossing_node cs r c m =
      let e = map→ crossing_end _ m in
      let i = filter→ (crosses cs r c) net.edges e.1 in
      omega (arith, e.2, ends e.0 i.0)
