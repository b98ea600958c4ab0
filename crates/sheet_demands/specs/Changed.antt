-- The network as a sheet leaves it: what is kept of the file's network. Assumes nothing.
use Rattle.std.specs.Prelude.{ℕ, ◌+◌, ◌≤◌, ◌<◌, ◌≡◌, ◌↔◌}
use Rattle.std.proofs.Common.{arith}
use Rattle.std.proofs.Math.Path.{refl}
use mathlib.Core.List.{Memᴰ}
use Rattle.model.specs.Bytes.{Bytes}
use Rattle.model.specs.Contents.{edge_body}
use Rattle.model.specs.Walk.{Arc}
use Rattle.model.specs.Network.{Edge, Network, network, edge, order, arcs}
use Rattle.theory.specs.Passed.{Sound}
use Rattle.theory.specs.Sound.{ends, positive}
use Rattle.theory.specs.NetWays.{Sane}
use Rattle.theory.specs.Slower.{HasArc, Comes, Slower, slower_arcs}
use Rattle.sheet.specs.Sheet.{Effect, Effect.delayed}
use Rattle.sheet.specs.Under.{left_of, edges_under, network_under}
use Rattle.sheet.proofs.Ground.{left→, →left, under→, →under, left_comes, as_were}
use Rattle.sheet_demands.specs.SheetOutcomes.{Left}

-- ---- an edge that is left is a road of the file, with the same ends and as many seconds more as its effect adds
module _ (effect : ℕ → Effect) (f : Bytes) where
  abbrev b : Bytes
  b = edge_body f

  pub left_just : {e : Edge} → Memᴰ e (network_under effect f).edges ↔ Left effect f e
  unfolding network_under left_of
  left_just {e} = (there, back)
    where
      there : Memᴰ e (edges_under effect b) → Left effect f e
      there m =
          let (i, h, k) = under→ effect b m in
          let (n, p, q) = left→ (effect i) (edge b i) (unfold left_of in k) in
          record { i = i; is_road = h; added = n; holds = p; is = q }

      back : Left effect f e → Memᴰ e (edges_under effect b)
      back l = →under effect b l.is_road (unfold left_of in →left (edge b l.i) l.holds l.is)

  abbrev net : Network
  net = network_under effect f

  was : {e : Edge} → Memᴰ e net.edges → Comes (network f).edges e
  unfolding network_under network
  was m = left_comes effect b m

  pub was_there : {e : Edge} → Memᴰ e net.edges
      → (old : Edge) × Memᴰ old (network f).edges × (old.first ≡ e.first) × (old.second ≡ e.second) × (old.seconds ≤ e.seconds)
  was_there m = let c = was m in (c.old, c.listed, c.first, c.second, c.seconds)

  pub same_order : order net ≡ order (network f)
  unfolding order network_under network
  same_order = refl

  -- Arcs only go, and costs only rise.
  pub slower : Slower (arcs (network f)) (arcs net)
  unfolding arcs
  slower = slower_arcs (network f).edges net.edges (λ e m. was m)

  pub sane : Sound f → Sane net
  sane sound = record { ends = λ e m. inside (was m); positive = λ a m. above (slower a m) }
    where
      inside : {e : Edge} → Comes (network f).edges e → (e.first < order net) × (e.second < order net)
      inside c = let r = ends f sound c.old c.listed in (omega (arith, r.0, c.first, same_order), omega (arith, r.1, c.second, same_order))

      above : {a : Arc} → HasArc (arcs (network f)) a.from a.to (a.cost + 0) → 0 < a.cost
      above w = omega (arith, positive f sound w.arc w.listed, w.cost)

-- ---- a sheet that does nothing leaves the network as it is
pub nothing_changed : (effect : ℕ → Effect) → ((i : ℕ) → effect i ≡ delayed 0) → (o : Bytes) → network_under effect o ≡ network o
unfolding network_under network
nothing_changed effect h o = rw (as_were effect h (edge_body o))
