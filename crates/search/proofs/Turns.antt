-- The rounds of a search over the lent words: the theory's state between them. Assumes nothing.
use Prim.Native.Nat.{ℕ, ◌-◌, ◌≤◌, ◌<◌}
use native.Mathlib.Omega.{arith}
use mathlib.Core.Path.{◌≡◌, refl, ap, ◌∙◌}
use mathlib.Core.Logic.{◌⊎◌, inl, inr, ⊎_elim}
use mathlib.Core.List.{List, []}
use lib.ListN.{set, take, drop, replicate, length-take, drop_of_length-le}
use Rattle.model.specs.Lists.{Distinct}
use Rattle.model.specs.Network.{max_nodes}
use Rattle.model.specs.Oracle.{no_walk}
use Rattle.model.specs.Walk.{Arc}
use Rattle.theory.specs.Sound.{max_cost}
use Rattle.algorithms.specs.Dijkstra.{at, relax_all, at_set}
use Rattle.algorithms.specs.Rounds.{Found, State}
use Rattle.algorithms.proofs.RoundsLaws.{state_first, state_turn, state_found}
use Rattle.arcs.specs.Arcs.{leaving}
use Rattle.arcs.proofs.Bodies.{Bounded, leaving_out}
use Rattle.search.specs.Holds.{Holds, Relaxed, SettledWithin, SettledFirst}
use Rattle.search.specs.Held.{time_in}
use Rattle.search.specs.Round.{Settles, Round}
use Rattle.search.proofs.Keeps.{unsettled_below}
use Rattle.words.specs.Regions.{times_in, order_in, settled_in}
use Rattle.search.specs.Order.{settle_order}

-- ---- a round: u is settled, from w to w₁
module _ (n k e u : ℕ) (w w₁ : List ℕ) (t : Settles n k e w w₁ u) where
  pub settled_within : SettledFirst n w → SettledWithin n (at (times_in n w₁) u) w₁
  settled_within f v i s = rw t.times (⊎_elim (λ (q : v ≡ u). omega (arith, ap (at (times_in n w)) q)) (λ h. f u t.near.inside t.near.fresh v i h)
      (was v (rw t.settled at s)))
    where
      was : (x : ℕ) → 0 < at (set (settled_in n w) u 1) x → (x ≡ u) ⊎ (0 < at (settled_in n w) x)
      was = at_set (λ x f. 0 < f → (x ≡ u) ⊎ (0 < at (settled_in n w) x)) (settled_in n w) u 1 (λ h. inl refl) (λ x h. inr h)

  -- The arcs out of u are relaxed, from w₁ to w₂.
  pub round_done : (arcs : List Arc) (w₂ : List ℕ) (r : ℕ) → Relaxed n (e - 1) (relax_all (at (times_in n w₁) u) (leaving u arcs) (times_in n w₁)) w₁ w₂ r
      → Round arcs n e w w₂ r
  round_done arcs w₂ r x = record {
    node = u;
    near = t.near;
    holds = x.holds;
    times = rw t.times at x.times;
    order = x.order ∙ t.order;
    settled = x.settled ∙ t.settled;
  }

-- ---- between the rounds

-- The state when the words are w, k nodes are held and the order begins at position e.
pub record Standing (arcs : List Arc) (n s k e : ℕ) (w : List ℕ) : Type 0 where
  pub holds : Holds n k e w
  pub state : State arcs n s (times_in n w) (settled_in n w) (settle_order n e w)
  pub once : Distinct (settle_order n e w)

pub standing_first : (arcs : List Arc) (n s k e : ℕ) (w : List ℕ) → Standing arcs n s k e w → SettledFirst n w
standing_first arcs n s k e w g u i z v j h = g.state.inv.ordered v u j i h z

module _ (arcs : List Arc) (n s : ℕ) (few : n ≤ max_nodes) (s_in : s < n) (fair : Bounded n arcs) where
  pub first : (k : ℕ) (w : List ℕ) → Holds n k n w → times_in n w ≡ set (replicate n no_walk) s 0 → settled_in n w ≡ replicate n 0 → Standing arcs n s k n w
  unfolding Distinct settle_order
  first k w g p q =
      let e : order_in n n w ≡ [] = drop_of_length-le (take n (drop n w)) {i = n} (omega (arith, length-take n (drop n w))) in
      record { holds = g; state = rw (p, q, e) (state_first arcs n s s_in); once = rw e tt }

  module _ (k e : ℕ) (w : List ℕ) (g : Standing arcs n s k e w) where
    pub next : (w' : List ℕ) (r : ℕ) → Round arcs n e w w' r → Standing arcs n s r (e - 1) w'
    unfolding Distinct
    next w' r t = record {
      holds = t.holds;
      state = rw (t.times, t.settled, t.order)
          (state_turn arcs n s fair.within s_in (times_in n w) (settled_in n w) (settle_order n e w) g.state t.node t.near
          (leaving t.node arcs) (leaving_out t.node arcs));
      once = rw t.order (λ m. omega (arith, (g.state.kept.settled t.node m).1, t.near.fresh), g.once);
    }

    -- No node is held, so none is reached that is not settled.
    all_settled : k ≡ 0 → (v : ℕ) → v < n → at (settled_in n w) v ≡ 0 → at (times_in n w) v ≡ no_walk
    all_settled z v i f =
        omega (
          arith,
          time_in n w g.holds.two v i,
          g.holds.queue.unreached v i (omega arith) (unsettled_below n k e v w g.holds i f),
          g.state.inv.fits v,
        )

    pub last : k ≡ 0 → (w' : List ℕ) → times_in n w' ≡ times_in n w → order_in n e w' ≡ settle_order n e w
        → Found arcs n s (times_in n w') (order_in n e w') × (e ≤ n) × Distinct (order_in n e w')
    last z w' p q =
        rw (p, q) (
          state_found arcs n s fair.within s_in (times_in n w) (settled_in n w) (settle_order n e w) g.state max_cost fair.cost
              (omega arith) (all_settled z),
          g.holds.queue.room,
          g.once,
        )
