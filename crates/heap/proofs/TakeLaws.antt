-- A nearest node is taken out. Assumes nothing.
use Prim.Native.Nat.{ℕ, ◌-◌, ◌≤◌, ◌<◌}
use native.Mathlib.Decide.{ℕ_discrete, dec_le}
use native.Mathlib.Omega.{arith}
use mathlib.Core.Path.{◌≡◌, ap, subst, ◌∙◌}
use mathlib.Core.Logic.{◌≢◌}
use mathlib.Core.List.{List}
use Rattle.model.specs.Oracle.{no_walk}
use Rattle.words.specs.Times.{time}
use Rattle.words.proofs.TimeLaws.{time_same}
use Rattle.heap.specs.Words.{Positioned, node, position, key, swapped}
use Rattle.heap.specs.Order.{OrderedDown}
use Rattle.heap.specs.Levels.{Down}
use Rattle.heap.specs.Sifts.{Rearranged, Sifted}
use Rattle.heap.specs.Queue.{Queue, Taken}
use Rattle.heap.proofs.OrderLaws.{least_first, taken_down}
use Rattle.heap.proofs.SwapLaws.{Swapped, swap_is, swap_kept, swap_keys, kept_more, kept_then, stood, stood_before}
use Rattle.heap.proofs.StoreLaws.{queue_of}

-- ---- the first is taken
module _ (n k e : ℕ) (w : List ℕ) (q : Queue n k e w) (some : 0 < k) where
  abbrev w₁ : List ℕ
  w₁ = swapped n 0 (k - 1) w

  abbrev w₂ : List ℕ
  w₂ = swapped n (k - 1) (e - 1) w₁

  pub take_first : Swapped n 0 (k - 1) w (swapped n 0 (k - 1) w)
  take_first = swap_is n 0 (k - 1) w q.positioned (omega (arith, q.held, q.room)) (omega (arith, q.held, q.room))

  pub take_second : Swapped n (k - 1) (e - 1) (swapped n 0 (k - 1) w) (swapped n (k - 1) (e - 1) (swapped n 0 (k - 1) w))
  take_second = swap_is n (k - 1) (e - 1) w₁ take_first.positioned (omega (arith, q.held, q.room)) (omega (arith, q.held, q.room))

  s : Swapped n 0 (k - 1) w w₁
  s = take_first

  t : Swapped n (k - 1) (e - 1) w₁ w₂
  t = take_second

  k_le : k ≤ e
  k_le = q.held

  e_le : e ≤ n
  e_le = q.room

  pub take_order : OrderedDown (k - 1) 0 (key n (swapped n (k - 1) (e - 1) (swapped n 0 (k - 1) w)))
  take_order = taken_down k (k - 1) (key n w) (key n w₂) q.order (omega arith)
      (λ m h z.
      (swap_keys n (k - 1) (e - 1) w₁ w₂ t n (omega arith) (omega (arith, k_le, e_le)) (omega (arith, k_le, e_le))).others m (omega (arith, k_le, e_le))
      (λ f. omega arith) (λ f. omega (arith, k_le))
      ∙ (swap_keys n 0 (k - 1) w w₁ s n (omega arith) (omega (arith, k_le, e_le)) (omega (arith, k_le, e_le))).others m (omega (arith, k_le, e_le)) z
      (λ f. omega arith))

  u : ℕ
  u = node n w 0

  -- where a node of w₂ stood in w
  stood₁ : (m : ℕ) → m < n → m ≢ 0 → m ≢ k - 1 → position n w (node n w₁ m) ≡ m
  stood₁ m i a b = ap (position n w) (s.others m i a b) ∙ q.positioned.back m i

  stood₂ : (m : ℕ) → m < k - 1 → position n w (node n w₂ m) < k
  stood₂ m i = pick (ℕ_discrete m 0)
    where
      i_in : m < n
      i_in = omega (arith, k_le, e_le)

      back₂ : node n w₂ m ≡ node n w₁ m
      back₂ = t.others m i_in (λ f. omega arith) (λ f. omega (arith, k_le))

      pick : Dec (m ≡ 0) → position n w (node n w₂ m) < k
      pick (yes f) = omega (arith, ap (position n w) (back₂ ∙ ap (node n w₁) f ∙ s.first), q.positioned.back (k - 1) (omega (arith, k_le, e_le)))
      pick (no z) = omega (arith, ap (position n w) back₂, stood₁ m i_in z (λ f. omega arith))

  stood₃ : (m : ℕ) → k - 1 ≤ m → m < e - 1 → (k ≤ position n w (node n w₂ m)) × (position n w (node n w₂ m) < e)
  stood₃ m i l = pick (ℕ_discrete m (k - 1))
    where
      i_in : m < n
      i_in = omega (arith, e_le)

      pick : Dec (m ≡ k - 1) → (k ≤ position n w (node n w₂ m)) × (position n w (node n w₂ m) < e)
      pick (yes f) =
          let g : position n w (node n w₂ m) ≡ e - 1 = ap (position n w) (ap (node n w₂) f ∙ t.first)
          ∙ stood₁ (e - 1) (omega (arith, e_le)) (λ f. omega arith) (λ f. omega arith) in
          (omega arith, omega arith)
      pick (no z) =
          let g : position n w (node n w₂ m) ≡ m = ap (position n w) (t.others m i_in z (λ f. omega arith)) ∙ stood₁ m i_in (λ f. omega arith) z in
          (omega arith, omega arith)

  pub take_queue : (w' : List ℕ) → Sifted n (k - 1) Down 0 (swapped n (k - 1) (e - 1) (swapped n 0 (k - 1) w)) w' → Taken n k e w w' (node n w 0)
  take_queue w' d = record {
    queue = queue_of n (k - 1) (e - 1) w₂ w' (kept_more n (k - 1) (e - 1) w₂ w' (omega (arith, k_le)) d.kept) d.order (omega (arith, k_le))
        (omega (arith, e_le)) low high;
    times = all.times;
    beyond = all.beyond;
    last = d.kept.beyond (e - 1) (omega (arith, k_le)) (omega (arith, k_le, e_le)) ∙ t.second ∙ s.second;
    inside = q.positioned.nodes 0 zero_in;
    held = omega (arith, first);
    levels = d.levels;
    near = near_is;
    nearest = λ v i h. pick v i h (dec_le k (position n w v));
  }
    where
      zero_in : 0 < n
      zero_in = omega (arith, k_le, e_le)

      first : position n w (node n w 0) ≡ 0
      first = q.positioned.back 0 zero_in

      near_is : time n w (node n w 0) < no_walk
      near_is = q.reached (node n w 0) (q.positioned.nodes 0 zero_in) (omega (arith, first))

      to₂ : Rearranged n e w w₂
      to₂ = kept_then n e w w₁ w₂ (swap_kept n 0 (k - 1) w w₁ s e (omega (arith, k_le)) (omega (arith, k_le)))
          (swap_kept n (k - 1) (e - 1) w₁ w₂ t e (omega (arith, k_le)) (omega (arith, k_le)))

      all : Rearranged n e w w'
      all = kept_then n e w w₂ w' to₂ (kept_more n (k - 1) e w₂ w' (omega (arith, k_le)) d.kept)

      low : (v : ℕ) → v < n → position n w' v < k - 1 → time n w₂ v < no_walk
      low v i r =
          let r₂ = stood_before n (k - 1) w₂ w' t.positioned d.kept.positioned d.kept.beyond v i r in
          let a = stood₂ (position n w₂ v) r₂ in
          let b = ap (position n w) (t.positioned.there v i) in
          omega (arith, time_same n w w₂ to₂.times v i, q.reached v i (omega arith))

      high : (v : ℕ) → v < n → k - 1 ≤ position n w' v → position n w' v < e - 1 → no_walk ≤ time n w₂ v
      high v i r r' =
          let c = stood n (k - 1) w₂ w' t.positioned d.kept.positioned d.kept.beyond v i r in
          let a = stood₃ (position n w₂ v) (omega arith) (omega arith) in
          let b = ap (position n w) (t.positioned.there v i) in
          omega (arith, time_same n w w₂ to₂.times v i, q.unreached v i (omega arith) (omega arith))

      pick : (v : ℕ) → v < n → position n w v < e → Dec (k ≤ position n w v) → time n w (node n w 0) ≤ time n w v
      pick v i h (yes l) = omega (arith, near_is, q.unreached v i l h)
      pick v i h (no l) = omega (arith, least_first k (key n w) q.order (position n w v) (omega arith), ap (time n w) (q.positioned.there v i))

-- ---- for the code: the words after each exchange, and the node that it has read
module _ (n k e : ℕ) (w : List ℕ) (q : Queue n k e w) (some : 0 < k) (w₁ : List ℕ) (s : w₁ ≡ swapped n 0 (k - 1) w) where
  pub take_positioned : Positioned n w₁
  take_positioned = rw s (take_first n k e w q some).positioned

  module _ (w₂ : List ℕ) (t : w₂ ≡ swapped n (k - 1) (e - 1) w₁) where
    after : w₂ ≡ swapped n (k - 1) (e - 1) (swapped n 0 (k - 1) w)
    after = t ∙ ap (swapped n (k - 1) (e - 1)) s

    pub take_from : Positioned n w₂ × OrderedDown (k - 1) 0 (key n w₂)
    take_from = rw after ((take_second n k e w q some).positioned, take_order n k e w q some)

    pub take_done : (w' : List ℕ) → Sifted n (k - 1) Down 0 w₂ w' → (u : ℕ) → u ≡ node n w 0 → Taken n k e w w' u
    take_done w' d u f = rw f (take_queue n k e w q some w' (subst (λ (y : List ℕ). Sifted n (k - 1) Down 0 y w') after d))
