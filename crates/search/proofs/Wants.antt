-- A search up to the wanted nodes: how many are lacking between its rounds, and what is found at its stop. Assumes nothing.
use Prim.Native.Nat.{ℕ, ◌+◌, ◌-◌, ◌/◌, ◌≤◌, ◌<◌}
use native.Mathlib.Decide.{ℕ_discrete}
use native.Mathlib.Omega.{arith}
use mathlib.Core.Path.{◌≡◌, refl, sym, ap, ◌∙◌}
use mathlib.Core.Logic.{◌⊎◌, inl, inr}
use mathlib.Core.Bool.{Bool, true, false}
use mathlib.Core.List.{List, ◌∷◌}
use borrow.Rule.Slice.PartMut.{mid_of}
use lib.ListN.{length, get_or, set, take, drop, replicate, length-drop, get_or-map}
use lib.Seq.{get_or-take, get_or-drop}
use Rattle.model.specs.Network.{max_nodes}
use Rattle.model.specs.Walk.{Arc}
use Rattle.theory.specs.Sound.{max_cost}
use Rattle.algorithms.specs.Dijkstra.{at}
use Rattle.algorithms.specs.Stops.{Stopped, lacking, lacking_wanted, lacking_other, lacking_none, found_stopped, state_stopped}
use Rattle.arcs.proofs.Bodies.{Bounded}
use Rattle.model.specs.Rules.{work_words}
use Rattle.bitset.specs.Bits.{set_words, is_in, flags}
use Rattle.bitset.proofs.Members.{flag_in, flag_out}
use Rattle.heap.specs.Words.{low}
use Rattle.words.specs.Frames.{Enough, KeptFrom}
use Rattle.search.specs.Round.{Round}
use Rattle.search.proofs.Turns.{Standing, next, last}
use Rattle.words.specs.Regions.{front_in, times_in, order_in, settled_in, want_in, search_words}
use Rattle.search.specs.Order.{settle_order}
use Rattle.words.proofs.Parts.{back_part}

-- ---- the bit of a node in the wanted set

-- m is its place, as the code has it.
want_fits : (n : ℕ) → 0 < n → search_words n + set_words n ≤ work_words n
want_fits n h = omega arith

within : (m s l v k : ℕ) → m + s ≤ k → k ≤ l → v < s → v < l - m
within m s l v k h r i = omega arith

pub want_bit : (n m v : ℕ) (w : List ℕ) → m ≡ search_words n → Enough n w → v < n → v / 32 < length (mid_of m (length w - m) w)
want_bit n m v w e long i = rw (back_part w m, length-drop, e)
    (within (search_words n) (set_words n) (length w) (v / 32) (work_words n) (want_fits n (omega arith)) long (omega arith))

module _ (n : ℕ) (w : List ℕ) (v : ℕ) (i : v < n) where
  pub want_set : is_in (mid_of (search_words n) (length w - search_words n) w) v ≡ true → at (want_in n w) v ≡ 1
  unfolding want_in
  want_set e = flag_in n (drop (search_words n) w) v i (rw back_part at e)

  pub want_not_set : is_in (mid_of (search_words n) (length w - search_words n) w) v ≡ false → at (want_in n w) v ≡ 0
  unfolding want_in
  want_not_set e = flag_out n (drop (search_words n) w) v i (rw back_part at e)

  want_most : at (want_in n w) v ≤ 1
  unfolding want_in
  want_most = pick (is_in (drop (search_words n) w) v) refl
    where
      pick : (b : Bool) → is_in (drop (search_words n) w) v ≡ b → at (flags n (drop (search_words n) w)) v ≤ 1
      pick true e = omega (arith, flag_in n (drop (search_words n) w) v i e)
      pick false e = omega (arith, flag_out n (drop (search_words n) w) v i e)

-- ---- the node that was settled last, as it stands in the words
last_settled : (n e u : ℕ) (w l : List ℕ) → e < n → settle_order n e (front_in n w) ≡ u ∷ l → low (get_or w (n + e) 0) ≡ u
unfolding settle_order low
last_settled n e u w l h q =
    let f = front_in n w in
    let z : e + 0 ≡ e = omega arith in
    let there : get_or (order_in n e f) 0 0 ≡ get_or w (n + e) 0 =
    get_or-drop e (take n (drop n f)) 0 0 ∙ rw z (get_or-take n (drop n f) e 0 h ∙ get_or-drop n f e 0 ∙ get_or-take (search_words n) w (n + e) 0 (omega arith)) in
    sym (get_or-map low (order_in n e f) 0 0 ∙ ap low there) ∙ ap (λ (x : List ℕ). get_or x 0 0) q

-- ---- between the rounds
-- At most `left` of the wanted nodes are not settled.
pub record Wanting (arcs : List Arc) (n s k e left : ℕ) (want w : List ℕ) : Type 0 where
  pub standing : Standing arcs n s k e w
  pub few : lacking want (settled_in n w) ≤ left

-- No node is settled. The words w are those that were lent, w₁ those in which the search has begun.
pub wanting_begun : (arcs : List Arc) (n s k left : ℕ) (w w₁ : List ℕ) → KeptFrom (search_words n) w w₁ → Standing arcs n s k n (front_in n w₁)
    → settled_in n (front_in n w₁) ≡ replicate n 0
    → lacking (want_in n w) (replicate n 0) ≤ left → Wanting arcs n s k n left (want_in n w₁) (front_in n w₁)
unfolding want_in
wanting_begun arcs n s k left w w₁ p g q h = record { standing = g; few = rw (q, p) h }

module _ (arcs : List Arc) (n s : ℕ) (small : n ≤ max_nodes) (s_in : s < n) (fair : Bounded n arcs) where
  module _ (k e left : ℕ) (want w : List ℕ) (g : Wanting arcs n s k e left want w) where
    abbrev done : List ℕ
    done = settled_in n w

    -- One node is settled, and counted where it is wanted.
    fewer : (u : ℕ) → u < n → at done u ≡ 0 → at want u ≤ 1 → (done' : List ℕ) → done' ≡ set done u 1 → lacking want done' ≤ left - at want u
    fewer u i f m done' q = rw q (pick (ℕ_discrete (at want u) 0))
      where
        pick : Dec (at want u ≡ 0) → lacking want (set done u 1) ≤ left - at want u
        pick (yes z) = omega (arith, lacking_other want done u z, g.few)
        pick (no z) = omega (arith, lacking_wanted want done u (omega (arith, g.standing.state.inv.flags)) (omega arith) f, g.few)

    module _ (w' : List ℕ) (r : ℕ) (t : Round arcs n e w w' r) where
      wanting_next : (left' : ℕ) → at want t.node ≤ 1 → left' ≡ left - at want t.node → Wanting arcs n s r (e - 1) left' want w'
      wanting_next left' m q = record {
        standing = next arcs n s small s_in fair k e w g.standing w' r t;
        few = rw q (fewer t.node t.near.inside t.near.fresh m (settled_in n w') t.settled);
      }

    -- No node is held, or no wanted one is lacking.
    stop : (k ≡ 0) ⊎ (left ≡ 0) → (w' : List ℕ) → times_in n w' ≡ times_in n w → order_in n e w' ≡ settle_order n e w
        → Stopped arcs n s want (times_in n w') (order_in n e w') × (e ≤ n)
    stop z w' p q = (pick z, g.standing.holds.queue.room)
      where
        pick : (k ≡ 0) ⊎ (left ≡ 0) → Stopped arcs n s want (times_in n w') (order_in n e w')
        pick (inl y) = found_stopped arcs n s fair.within s_in max_cost fair.cost (omega arith) (times_in n w') (order_in n e w')
            (last arcs n s small s_in fair k e w g.standing y w' p q).0 want
        pick (inr y) =
            rw (p, q)
            (state_stopped arcs n s fair.within s_in fair.positive want (times_in n w) done (settle_order n e w)
            g.standing.state
            (λ v i l. lacking_none want done (omega (arith, g.few)) v (omega (arith, g.standing.state.inv.flags)) l))

  -- A round in the lent words, from w to w'. The wanted set stands behind the words of the search, where nothing is written.
  module _ (k e left : ℕ) (w₀ w w' : List ℕ) (some : 0 < k) (same : KeptFrom (search_words n) w₀ w') (g : Wanting arcs n s k e left (want_in n w₀) (front_in n w))
      (r : ℕ) (t : Round arcs n e (front_in n w) (front_in n w') r) where
    pub room : (0 < e) × (e ≤ n)
    room = (omega (arith, g.standing.holds.queue.held, some), g.standing.holds.queue.room)

    node_read : low (get_or w' (n + (e - 1)) 0) ≡ t.node
    node_read = last_settled n (e - 1) t.node w' (settle_order n e (front_in n w)) (omega (arith, room)) t.order

    pub node_inside : low (get_or w' (n + (e - 1)) 0) < n
    node_inside = omega (arith, node_read, t.near.inside)

    same_want : want_in n w' ≡ want_in n w₀
    unfolding want_in
    same_want = ap (flags n) same

    pub turn : (left' : ℕ) → left' ≡ left - at (want_in n w') (low (get_or w' (n + (e - 1)) 0)) → Wanting arcs n s r (e - 1) left' (want_in n w₀) (front_in n w')
    turn left' q =
        wanting_next k e left (want_in n w₀) (front_in n w) g (front_in n w') r t left' (want_most n w₀ t.node t.near.inside)
        (rw (node_read, same_want) at q)

  -- The end, where the search began in w₁ and has come to w.
  pub stop_wanted : (k e left : ℕ) (w₀ w₁ : List ℕ) → KeptFrom (search_words n) w₀ w₁ → (w : List ℕ) → Wanting arcs n s k e left (want_in n w₁) w
      → (k ≡ 0) ⊎ (left ≡ 0)
      → (w' : List ℕ) → times_in n w' ≡ times_in n w → order_in n e w' ≡ settle_order n e w → Stopped arcs n s (want_in n w₀) (times_in n w') (order_in n e w')
      × (e ≤ n)
  unfolding want_in
  stop_wanted k e left w₀ w₁ p w g = rw (← p) (stop k e left (flags n (drop (search_words n) w₁)) w g)
