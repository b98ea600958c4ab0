-- That Dijkstra's method keeps what holds between its steps, and what its end tells. Assumes nothing.
use Rattle.std.specs.Prelude.{ℕ, ◌+◌, ◌-◌, ◌*◌, ◌≤◌, ◌<◌, min, ◌≡◌, ◌⊎◌, ◌↔◌, List, [], ◌∷◌, length, set}
use Rattle.std.proofs.Common.{arith, sym, ap, ◌∙◌, inl, inr, length-set, get_or-set_same, ext_get_or}
use Rattle.std.proofs.Math.Nat.{min-eq_left, min-eq_right}
use Rattle.std.proofs.Math.Decide.{dec_le}
use Rattle.std.proofs.Math.Path.{refl}
use Rattle.std.proofs.Math.Logic.{⊎_elim}
use mathlib.Core.List.Memᴰ
use Rattle.model.specs.Walk.{Arc, Mem, Walk, Least}
use Rattle.model.specs.Distance.{Distance, unreachable, finite, dist}
use Rattle.model.specs.Oracle.{no_walk, coded}
use Rattle.theory.specs.Walks.{Within, Costs, along}
use Rattle.theory.specs.Exact.{time_least, none_no_walk, dist_bound}
use Rattle.algorithms.specs.Dijkstra.{at, relax, relax_all, length_relax_all, at_set, Inv, Nearest, Out, from_start}

-- A word after `relax` is the word before, or the way by the arc.
relax_from : (P : ℕ → ℕ → Type 0) (c : ℕ) (a : Arc) (d : List ℕ) → P a.to (c + a.cost) → ((v : ℕ) → P v (at d v)) → (v : ℕ) → P v (at (relax c a d) v)
unfolding relax
relax_from P c a d p h = at_set P d a.to _ (pick (dec_le (at d a.to) (c + a.cost))) h
  where
    pick : Dec (at d a.to ≤ c + a.cost) → P a.to (min (at d a.to) (c + a.cost))
    pick (yes l) = rw min-eq_left (h a.to)
    pick (no l) = rw (min-eq_right {n = c + a.cost} {m = at d a.to} (omega arith)) p

pub relax_all_from : (P : ℕ → ℕ → Type 0) (c : ℕ) (out : List Arc) (d : List ℕ) → ((a : Arc) → Mem a out → P a.to (c + a.cost)) → ((v : ℕ) → P v (at d v))
    → (v : ℕ) → P v (at (relax_all c out d) v)
unfolding relax_all
relax_all_from P c [] d p h = h
relax_all_from P c (a ∷ out) d p h =
    relax_all_from P c out (relax c a d) (λ b i. p b (Memᴰ.tail i)) (relax_from P c a d (p a (Memᴰ.head refl)) h)

-- No word grows.
relax_le : (c : ℕ) (a : Arc) (d : List ℕ) (v : ℕ) → at (relax c a d) v ≤ at d v
unfolding relax
relax_le c a d = at_set (λ v x. x ≤ at d v) d a.to _ (omega arith) (λ v. omega arith)

pub relax_all_le : (c : ℕ) (out : List Arc) (d : List ℕ) (v : ℕ) → at (relax_all c out d) v ≤ at d v
unfolding relax_all
relax_all_le c [] d v = omega arith
relax_all_le c (a ∷ out) d v = omega (arith, relax_all_le c out (relax c a d) v, relax_le c a d v)

-- Each arc is relaxed.
pub relax_all_hits : (c : ℕ) (out : List Arc) (d : List ℕ) (a : Arc) → Mem a out → a.to < length d → at (relax_all c out d) a.to ≤ c + a.cost
unfolding relax_all relax
relax_all_hits c [] d a i h = absurd (Memᴰ.not-nil i)
relax_all_hits c (b ∷ out) d a i h = pick (relax_all_hits c out (relax c b d) a) (Memᴰ.cases_cons i)
  where
    pick : (Mem a out → a.to < length (relax c b d) → at (relax_all c out (relax c b d)) a.to ≤ c + a.cost) → (a ≡ b) ⊎ Mem a out
        → at (relax_all c out (relax c b d)) a.to ≤ c + a.cost
    pick rec (inr j) = rec j (rw length-set h)
    pick rec (inl e) = rw (← e) (omega (arith, relax_all_le c out (relax c a d) a.to, get_or-set_same d a.to (min (at d a.to) (c + a.cost)) 0 h))

-- Lists of the same arcs relax alike, whatever their order.
relax_all_below : (c : ℕ) (xs ys : List Arc) (d : List ℕ) → ((a : Arc) → Mem a ys → Mem a xs) → (v : ℕ) → v < length d
    → at (relax_all c xs d) v ≤ at (relax_all c ys d) v
relax_all_below c xs ys d sub = relax_all_from (λ v x. v < length d → at (relax_all c xs d) v ≤ x) c ys d (λ a i h. relax_all_hits c xs d a (sub a i) h)
    (λ v h. relax_all_le c xs d v)

pub relax_all_same : (c : ℕ) (xs ys : List Arc) (d : List ℕ) → ((a : Arc) → Mem a xs ↔ Mem a ys) → relax_all c xs d ≡ relax_all c ys d
relax_all_same c xs ys d same =
    ext_get_or 0 (relax_all c xs d) (relax_all c ys d) (length_relax_all c xs d ∙ sym (length_relax_all c ys d))
    (λ v h.
    let i : v < length d = omega (arith, length_relax_all c xs d) in
    omega (arith, relax_all_below c xs ys d (λ a m. (same a).1 m) v i, relax_all_below c ys xs d (λ a m. (same a).0 m) v i))

lt_or : (m n : ℕ) → (m < n) ⊎ (n ≤ m)
lt_or m n = pick (dec_le n m)
  where
    pick : Dec (n ≤ m) → (m < n) ⊎ (n ≤ m)
    pick (yes h) = inr h
    pick (no h) = inl (omega arith)

module _ (arcs : List Arc) (N s : ℕ) (within : Within N arcs) (s_in : s < N) (d done : List ℕ) (inv : Inv arcs N s d done) where
  -- (b) A nearest node is exact.
  module _ (u : ℕ) (near : Nearest N d done u) where
    pub nearest_least : Least arcs s u (at d u)
    nearest_least = record {
      has = inv.real u near.inside near.reached;
      least = λ n w. ⊎_elim (λ l. l) (λ y. omega (arith, near.nearest y.0 y.1 y.2, y.3)) (from_start arcs N s within s_in d done inv w);
    }

    -- To settle it keeps the invariant.
    module _ (out : List Arc) (o : Out arcs u out) where
      abbrev d' : List ℕ
      d' = relax_all (at d u) out d

      abbrev done' : List ℕ
      done' = set done u 1

      -- A settled node is no farther than `u`, so it keeps its word.
      pub same : (x : ℕ) → x < N → at d x ≤ at d u → at d' x ≡ at d x
      same x i h = omega (arith, relax_all_le (at d u) out d x, low)
        where
          low : at d x ≤ at d' x
          low = relax_all_from (λ v y. at d x ≤ at d v → at d x ≤ y) (at d u) out d (λ a j l. omega arith) (λ v l. l) x (omega arith)

      pub was_settled : (x : ℕ) → 0 < at done' x → (x ≡ u) ⊎ (0 < at done x)
      was_settled = at_set (λ x f. 0 < f → (x ≡ u) ⊎ (0 < at done x)) done u 1 (λ h. inl refl) (λ x h. inr h)

      pub was_near : (x : ℕ) → x < N → 0 < at done' x → at d x ≤ at d u
      was_near x i h = ⊎_elim (λ e. rw e (omega arith)) (λ l. inv.ordered x u i near.inside l near.fresh) (was_settled x h)

      still_fresh : (y : ℕ) → at done' y ≡ 0 → at done y ≡ 0
      still_fresh = at_set (λ y f. f ≡ 0 → at done y ≡ 0) done u 1 (λ e. absurd (omega arith)) (λ y e. e)

      far_enough : (y : ℕ) → y < N → at done y ≡ 0 → at d u ≤ at d' y
      far_enough = relax_all_from (λ y x. y < N → at done y ≡ 0 → at d u ≤ x) (at d u) out d (λ a j i e. omega arith) near.nearest

      still_relaxed : (a : Arc) → Mem a arcs → 0 < at done' a.from → at d' a.to ≤ at d' a.from + a.cost
      still_relaxed a j h =
          ⊎_elim
          (λ e. omega (arith, keeps, ap (at d) e, relax_all_hits (at d u) out d a (o.every a j e) (rw inv.words (within a j).1)))
          (λ l. omega (arith, keeps, relax_all_le (at d u) out d a.to, inv.relaxed a j l))
          (was_settled a.from h)
        where
          keeps : at d' a.from ≡ at d a.from
          keeps = same a.from (within a j).0 (was_near a.from (within a j).0 h)

      pub settle_inv : Inv arcs N s d' done'
      settle_inv = record {
        words = rw length_relax_all inv.words;
        flags = rw length-set inv.flags;
        fits = λ v. omega (arith, relax_all_le (at d u) out d v, inv.fits v);
        begun = omega (arith, relax_all_le (at d u) out d s, inv.begun);
        real = relax_all_from (λ v x. v < N → x < no_walk → Walk arcs s v x) (at d u) out d
            (λ a j i l. along a (o.known a j) (rw (o.leave a j) (inv.real u near.inside near.reached)))
            inv.real;
        relaxed = still_relaxed;
        ordered = λ x y i j h e. omega (arith, same x i (was_near x i h), was_near x i h, far_enough y j (still_fresh y e));
      }

  -- (c) Where no reached node is unsettled, each word is the least time.
  pub finish_le : ((v : ℕ) → v < N → at done v ≡ 0 → at d v ≡ no_walk) → (t n : ℕ) → Walk arcs s t n → at d t ≤ n
  finish_le all t n w = ⊎_elim (λ l. l) (λ y. omega (arith, all y.0 y.1 y.2, y.3, inv.fits t)) (from_start arcs N s within s_in d done inv w)

  pub finish : (K : ℕ) → Costs K arcs → (N - 1) * K < no_walk → ((v : ℕ) → v < N → at done v ≡ 0 → at d v ≡ no_walk) → (t : ℕ) → t < N
      → at d t ≡ coded (dist arcs N s t)
  unfolding coded
  finish K c small all t i = pick (dist arcs N s t) refl
    where
      pick : (p : Distance) → dist arcs N s t ≡ p → at d t ≡ coded p
      pick unreachable e = ⊎_elim (λ (l : at d t < no_walk). absurd (none_no_walk arcs N s t within s_in e (at d t) (inv.real t i l)))
          (λ (l : no_walk ≤ at d t). omega (arith, inv.fits t)) (lt_or (at d t) no_walk)
      pick (finite n) e =
          let l : Least arcs s t n = time_least arcs N s t within s_in n e in
          let h : at d t ≤ n = finish_le all t n l.has in
          let b : n ≤ (N - 1) * K = dist_bound arcs N s t within s_in K n c e in
          omega (arith, l.least (at d t) (inv.real t i (omega arith)))
