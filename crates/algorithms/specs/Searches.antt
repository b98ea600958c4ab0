-- What a search has found is what the backward marks start from. Assumes nothing.
use Rattle.std.specs.Prelude.{ℕ, ◌-◌, ◌*◌, ◌≤◌, ◌<◌, ◌≡◌, refl}
use Rattle.std.proofs.Common.{zero-add, ◌∙◌}
use native.Mathlib.Omega.{arith}
use Rattle.std.proofs.Math.Path.{ap}
use mathlib.Core.List.{List, Memᴰ}
use Rattle.model.specs.Walk.{Arc, Walk, Least}
use Rattle.model.specs.Distance.{Distance, unreachable, finite, dist}
use Rattle.model.specs.Oracle.{no_walk, coded}
use Rattle.theory.specs.Walks.{Within, Costs, walk_in}
use Rattle.theory.specs.Exact.{time_least, walk_time, dist_bound}
use Rattle.theory.specs.RangeLaws.{get_d_map_range}
use Rattle.algorithms.specs.Dijkstra.{at}
use Rattle.algorithms.specs.Rounds.{Found, distance_words}
use Rattle.algorithms.specs.Marks.{Search}

module _ (arcs : List Arc) (N s : ℕ) (within : Within N arcs) (s_in : s < N) (K : ℕ) (costs : Costs K arcs) (small : (N - 1) * K < no_walk) (d order : List ℕ)
    (found : Found arcs N s d order) where
  -- The word of each node.
  pub word_of : (v : ℕ) → v < N → at d v ≡ coded (dist arcs N s v)
  unfolding distance_words
  word_of v h = ap (λ (l : List ℕ). at l v) found.times ∙ (get_d_map_range (λ v. coded (dist arcs N s v)) 0 0 N v h ∙ rw zero-add)

  least_word : (v : ℕ) (x : Distance) → dist arcs N s v ≡ x → at d v ≡ coded x → at d v < no_walk → Least arcs s v (at d v)
  unfolding coded
  least_word v unreachable e w l = absurd (omega arith)
  least_word v (finite n) e w l = rw w (time_least arcs N s v within s_in n e)

  exact : (v : ℕ) → Memᴰ v order → Least arcs s v (at d v)
  exact v m = let r = found.reached v m in least_word v (dist arcs N s v) refl (word_of v r.0) r.1

  -- Every node with a walk from s is in the order.
  pub in_order : {v n : ℕ} → Walk arcs s v n → Memᴰ v order
  in_order {v} {n} w =
      let h : v < N = walk_in within s_in w in
      let t = walk_time arcs N s v within s_in n w in
      found.every v h (near t.0 (word_of v h ∙ ap coded t.1) (dist_bound arcs N s v within s_in K t.0 costs t.1))
    where
      near : (k : ℕ) → at d v ≡ coded (finite k) → k ≤ (N - 1) * K → at d v < no_walk
      near k e b = unfold coded in omega arith

  -- Whatever is wanted, the search has found enough.
  pub found_search : (Q : ℕ → Type 0) → Search arcs s (λ v. Memᴰ v order) (at d) Q
  found_search Q = record { exact = exact; enough = λ u w l g. in_order u }
