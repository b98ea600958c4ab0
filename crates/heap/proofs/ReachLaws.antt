-- A node that enters, and one that is lowered. Assumes nothing.
use Prim.Native.Nat.{ℕ, ◌+◌, ◌≤◌, ◌<◌, min}
use native.Mathlib.Decide.{ℕ_discrete}
use native.Mathlib.Omega.{arith}
use mathlib.Core.Path.{◌≡◌, sym, ap, subst, ◌∙◌}
use mathlib.Core.Logic.{◌≢◌}
use mathlib.Core.List.{List}
use lib.ListN.{get_or, set}
use Rattle.model.specs.Oracle.{no_walk}
use Rattle.words.specs.Regions.{times_in}
use Rattle.words.specs.Times.{time, store}
use Rattle.words.proofs.TimeLaws.{time_at}
use Rattle.heap.specs.Words.{Positioned, node, position, key, swapped}
use Rattle.heap.specs.Order.{OrderedUp}
use Rattle.heap.specs.Levels.{Up}
use Rattle.heap.specs.Sifts.{Rearranged, Sifted}
use Rattle.heap.specs.Queue.{Queue, Went, Entered, Lowered, lowered}
use Rattle.heap.proofs.OrderLaws.{lowered_up, entered_up}
use Rattle.heap.proofs.SwapLaws.{Swapped, swap_is, swap_kept, swap_keys, kept_more, kept_then, stood, stood_before}
use Rattle.heap.proofs.StoreLaws.{queue_of, store_node, store_position, store_same, store_other, store_positioned, store_key, store_key_here}
use Rattle.heap.proofs.StoreLaws.{store_times}

-- ---- a node that is held is lowered
module _ (n k e v x : ℕ) (w : List ℕ) (q : Queue n k e w) (v_in : v < n) (small : x < no_walk) where
  p : Positioned n w
  p = q.positioned

  p₁ : Positioned n (store n v x w)
  unfolding p
  p₁ = store_positioned n v x w p v_in

  time₁ : (u : ℕ) → u < n → time n w u < no_walk → time n (store n v x w) u < no_walk
  unfolding p
  time₁ u i h = pick (ℕ_discrete u v)
    where
      pick : Dec (u ≡ v) → time n (store n v x w) u < no_walk
      pick (yes f) = omega (arith, ap (time n (store n v x w)) f, store_same n v x w p v_in)
      pick (no m) = omega (arith, store_other n v x w p v_in u i m)

  module _ (h : position n w v < k) (less : x < time n w v) where
    pub lower_order : OrderedUp k (position n w v) (key n (store n v x w))
    unfolding p
    lower_order = lowered_up k (key n w) (key n (store n v x w)) (position n w v) q.order h
        (omega (arith, store_key_here n v x w p v_in, ap (time n w) (p.there v v_in)))
        (λ m l ne. store_key n v x w p v_in m (omega (arith, q.held, q.room)) ne)

    pub lower_queue : (w' : List ℕ) → Sifted n k Up (position n w v) (store n v x w) w' → Lowered n k e v x w w'
    unfolding p
    lower_queue w' s = record {
      levels = s.levels;
      went = record {
        queue = queue_of n k e (store n v x w) w' (kept_more n k e (store n v x w) w' q.held s.kept) s.order q.held q.room
            (λ u i l. time₁ u i (q.reached u i (omega (
              arith,
              stood_before n k (store n v x w) w' p₁ s.kept.positioned s.kept.beyond u i l,
              store_position n v x w p v_in u i,
            ))))
            (λ u i l r.
            let a = stood n k (store n v x w) w' p₁ s.kept.positioned s.kept.beyond u i l in
            let b = store_position n v x w p v_in u i in
            let c : u ≢ v = λ f. omega (arith, ap (position n w) f) in
            omega (arith, store_other n v x w p v_in u i c, q.unreached u i (omega arith) (omega arith)));
        times = s.kept.times ∙ store_times n v x w p v_in;
        beyond = λ m l r. s.kept.beyond m (omega (arith, q.held)) r ∙ store_node n v x w p v_in m r;
      };
    }

  -- ---- a node that is not reached enters
  module _ (h : k ≤ position n w v) (l : position n w v < e) where
    abbrev w₂ : List ℕ
    w₂ = swapped n k (position n w v) (store n v x w)

    pub enter_swapped : Swapped n k (position n w v) (store n v x w) (swapped n k (position n w v) (store n v x w))
    unfolding p p₁
    enter_swapped = swap_is n k (position n w v) (store n v x w) p₁ (omega (arith, q.room)) (p.positions v v_in)

    s : Swapped n k (position n w v) (store n v x w) w₂
    s = enter_swapped

    k_in : k < n
    k_in = omega (arith, q.room)

    pub enter_order : OrderedUp (k + 1) k (key n (swapped n k (position n w v) (store n v x w)))
    unfolding p k_in
    enter_order = entered_up k (key n w) (key n w₂) q.order
        (λ m r. (swap_keys n k (position n w v) (store n v x w) w₂ s n (omega arith) k_in (p.positions v v_in)).others m (omega (arith, k_in))
        (λ f. omega arith) (λ f. omega arith)
        ∙ store_key n v x w p v_in m (omega (arith, k_in)) (λ f. omega arith))

    -- where a node of w₂ stood in w
    stood_at : (u m : ℕ) → m < n → node n w₂ m ≡ u → m ≢ k → m ≢ position n w v → position n w u ≡ m
    unfolding p
    stood_at u m i f a b = ap (position n w) (sym f ∙ s.others m i a b ∙ store_node n v x w p v_in m i) ∙ p.back m i

    at_k : node n w₂ k ≡ v
    unfolding p
    at_k = s.first ∙ store_node n v x w p v_in (position n w v) (p.positions v v_in) ∙ p.there v v_in

    at_p : position n w (node n w₂ (position n w v)) ≡ k
    unfolding p k_in
    at_p = ap (position n w) (s.second ∙ store_node n v x w p v_in k k_in) ∙ p.back k k_in

    pub enter_queue : (w' : List ℕ) → Sifted n (k + 1) Up k (swapped n k (position n w v) (store n v x w)) w' → Entered n k e v x w w'
    unfolding p k_in
    enter_queue w' t = record {
      levels = t.levels;
      went = record {
        queue = queue_of n (k + 1) e (store n v x w) w' all t.order (omega arith) q.room low high;
        times = t.kept.times ∙ s.times ∙ store_times n v x w p v_in;
        beyond = λ m a r. all.beyond m a r ∙ store_node n v x w p v_in m r;
      };
    }
      where
        all : Rearranged n e (store n v x w) w'
        all = kept_then n e (store n v x w) w₂ w' (swap_kept n k (position n w v) (store n v x w) w₂ s e (omega arith) l)
            (kept_more n (k + 1) e w₂ w' (omega arith) t.kept)

        low : (u : ℕ) → u < n → position n w' u < k + 1 → time n (store n v x w) u < no_walk
        low u i r = pick (ℕ_discrete (position n w₂ u) k)
          where
            r₂ : position n w₂ u < k + 1
            r₂ = stood_before n (k + 1) w₂ w' s.positioned t.kept.positioned t.kept.beyond u i r

            there₂ : node n w₂ (position n w₂ u) ≡ u
            there₂ = s.positioned.there u i

            pick : Dec (position n w₂ u ≡ k) → time n (store n v x w) u < no_walk
            pick (yes f) = omega (arith, ap (time n (store n v x w)) (sym there₂ ∙ ap (node n w₂) f ∙ at_k), store_same n v x w p v_in)
            pick (no m) = time₁ u i (q.reached u i (omega (
              arith,
              r₂,
              stood_at u (position n w₂ u) (s.positioned.positions u i) there₂ m
                  (λ g. omega (arith, r₂)),
            )))

        high : (u : ℕ) → u < n → k + 1 ≤ position n w' u → position n w' u < e → no_walk ≤ time n (store n v x w) u
        high u i r r' = pick (ℕ_discrete (position n w₂ u) (position n w v))
          where
            same₂ : position n w₂ u ≡ position n w' u
            same₂ = stood n (k + 1) w₂ w' s.positioned t.kept.positioned t.kept.beyond u i r

            there₂ : node n w₂ (position n w₂ u) ≡ u
            there₂ = s.positioned.there u i

            done : k ≤ position n w u → position n w u < e → position n w u ≢ position n w v → no_walk ≤ time n (store n v x w) u
            done a b c = omega (arith, store_other n v x w p v_in u i (λ g. c (ap (position n w) g)), q.unreached u i a b)

            pick : Dec (position n w₂ u ≡ position n w v) → no_walk ≤ time n (store n v x w) u
            pick (yes f) =
                let g : position n w u ≡ k = ap (position n w) (sym there₂ ∙ ap (node n w₂) f) ∙ at_p in
                done (omega arith) (omega arith) (λ d. omega (arith, same₂))
            pick (no m) =
                let g : position n w u ≡ position n w₂ u = stood_at u (position n w₂ u) (s.positioned.positions u i) there₂ (λ d. omega (arith, same₂)) m in
                done (omega (arith, same₂)) (omega (arith, same₂)) (λ d. m (omega arith))

-- ---- for the code: w₁ are the words after the time was written, and p is the position as it has read it then
module _ (n k e v x : ℕ) (w : List ℕ) (q : Queue n k e w) (v_in : v < n) (small : x < no_walk) (w₁ : List ℕ) (e₁ : w₁ ≡ store n v x w) where
  pub stored : Positioned n w₁
  stored = subst (Positioned n) (sym e₁) (store_positioned n v x w q.positioned v_in)

  module _ (p : ℕ) (ep : p ≡ position n w₁ v) where
    pub read_same : p ≡ position n w v
    read_same = ep ∙ ap (λ (y : List ℕ). position n y v) e₁ ∙ store_position n v x w q.positioned v_in v v_in

    module _ (h : position n w v < k) (less : x < time n w v) where
      pub lower_from : OrderedUp k p (key n w₁)
      lower_from =
          subst (λ (m : ℕ). OrderedUp k m (key n w₁)) (sym read_same)
          (subst (λ (y : List ℕ). OrderedUp k (position n w v) (key n y)) (sym e₁) (lower_order n k e v x w q v_in small h less))

      pub lower_done : (w' : List ℕ) → Sifted n k Up p w₁ w' → Lowered n k e v x w w'
      lower_done w' s =
          lower_queue n k e v x w q v_in small h less w'
          (subst (λ (m : ℕ). Sifted n k Up m (store n v x w) w') read_same (subst (λ (y : List ℕ). Sifted n k Up p y w') e₁ s))

    module _ (h : k ≤ position n w v) (l : position n w v < e) (w₂ : List ℕ) (s : w₂ ≡ swapped n k p w₁) where
      after : w₂ ≡ swapped n k (position n w v) (store n v x w)
      after = s ∙ ap (swapped n k p) e₁ ∙ ap (λ (m : ℕ). swapped n k m (store n v x w)) read_same

      pub enter_from : Positioned n w₂ × OrderedUp (k + 1) k (key n w₂)
      enter_from = rw after ((enter_swapped n k e v x w q v_in small h l).positioned, enter_order n k e v x w q v_in small h l)

      pub enter_done : (w' : List ℕ) → Sifted n (k + 1) Up k w₂ w' → Entered n k e v x w w'
      enter_done w' t = enter_queue n k e v x w q v_in small h l w' (subst (λ (y : List ℕ). Sifted n (k + 1) Up k y w') after t)

-- ---- a time offered, which is less
module _ (n e v x : ℕ) (w : List ℕ) (v_in : v < n) where
  here : get_or (times_in n w) v 0 ≡ time n w v
  here = time_at n w v v_in

  less_times : x < time n w v → set (times_in n w) v x ≡ lowered (times_in n w) v x
  less_times h =
      let m : min (get_or (times_in n w) v 0) x ≡ x = omega (arith, here) in
      ap (λ (y : ℕ). set (times_in n w) v y) (sym m)

  pub offer_less : x < time n w v → (w' : List ℕ) (r : ℕ) → Went n e (set (times_in n w) v x) w w' r → Went n e (lowered (times_in n w) v x) w w' r
  offer_less h w' r g = record { queue = g.queue; times = g.times ∙ less_times h; beyond = g.beyond }
