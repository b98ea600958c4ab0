-- What `dist` finds is the total of a walk, and no walk of at most N arcs takes less. Assumes nothing.
use Prim.Native.Nat.{ℕ, zero, suc, ◌+◌, ◌≤◌, ◌<◌, min}
use Rattle.std.proofs.Common.{add_assoc, add-zero, zero-add, not-suc-le-zero, arith, inl, inr, length-set, get_or-set_same, get_or-set_other}
use Rattle.std.proofs.Math.Nat.{min-eq_left, min-eq_right}
use Rattle.std.proofs.Math.Decide.{dec_le, ℕ_discrete}
use Rattle.std.specs.Prelude.{◌≡◌, refl, ◌⊎◌, length, set, replicate}
use mathlib.Core.List.Memᴰ
use mathlib.Core.List.{List, [], ◌∷◌}
use Rattle.std.proofs.lemmas.List.{length-replicate}
use Rattle.std.proofs.Math.Seq.{set_out}
use Rattle.model.specs.Walk.{Arc, Mem, Walk, stay, go, hops}
use Rattle.theory.specs.Walks.{Within, along}
use Rattle.model.specs.Distance.{Distance, unreachable, finite, sooner, later, at, start, relax, round, rounds, dist}

-- What stands at a node after a store.
at_set : (P : ℕ → Distance → Type 0) (ts : List Distance) (i : ℕ) (x : Distance) → P i x → ((v : ℕ) → P v (at ts v)) → (v : ℕ) → P v (at (set ts i x) v)
at_set P ts i x p h v = pick (ℕ_discrete v i) (dec_le (length ts) i)
  where
    pick : Dec (v ≡ i) → Dec (length ts ≤ i) → P v (at (set ts i x) v)
    pick (no n) d = rw (get_or-set_other ts i v x unreachable n) (h v)
    pick (yes e) (yes o) = rw (set_out ts i x o) (h v)
    pick (yes e) (no o) = rw (e, get_or-set_same ts i x unreachable (omega arith)) p

at_none : (N v : ℕ) → at (replicate N unreachable) v ≡ unreachable
at_none zero v = refl
at_none (suc N) zero = refl
at_none (suc N) (suc v) = at_none N v

-- What is found is the total of a walk.
module _ (arcs : List Arc) (u : ℕ) where
  abbrev pub Real : ℕ → Distance → Type 0
  Real v unreachable = Unit {0}
  Real v (finite n) = Walk arcs u v n

  Sound : List Distance → Type 0
  Sound ts = (v : ℕ) → Real v (at ts v)

  real_sooner : (v : ℕ) (p q : Distance) → Real v p → Real v q → Real v (sooner p q)
  unfolding sooner
  real_sooner v unreachable q x y = y
  real_sooner v (finite m) unreachable x y = x
  real_sooner v (finite m) (finite n) x y = pick (dec_le m n)
    where
      pick : Dec (m ≤ n) → Walk arcs u v (min m n)
      pick (yes h) = rw min-eq_left x
      pick (no h) = rw (min-eq_right {n = n} {m = m} (omega arith)) y

  real_later : (a : Arc) (p : Distance) → Mem a arcs → Real a.from p → Real a.to (later p a.cost)
  unfolding later
  real_later a unreachable i x = x
  real_later a (finite m) i x = along a i x

  sound_relax : (a : Arc) (ts : List Distance) → Mem a arcs → Sound ts → Sound (relax a ts)
  unfolding Sound relax
  sound_relax a ts i h =
      at_set Real ts a.to _ (real_sooner a.to (at ts a.to) _ (h a.to) (real_later a (at ts a.from) i (h a.from))) h

  sound_round : (bs : List Arc) (ts : List Distance) → ((a : Arc) → Mem a bs → Mem a arcs) → Sound ts → Sound (round bs ts)
  unfolding round
  sound_round [] ts k h = h
  sound_round (a ∷ bs) ts k h = sound_round bs (relax a ts) (λ b i. k b (Memᴰ.tail i)) (sound_relax a ts (k a (Memᴰ.head refl)) h)

  sound_rounds : (k : ℕ) (ts : List Distance) → Sound ts → Sound (rounds k arcs ts)
  unfolding rounds
  sound_rounds zero ts h = h
  sound_rounds (suc k) ts h = sound_rounds k (round arcs ts) (sound_round arcs ts (λ a i. i) h)

  sound_start : (N : ℕ) → Sound (start N u)
  unfolding Sound start
  sound_start N = at_set Real (replicate N unreachable) u (finite 0) stay (λ v. rw at_none tt)

  pub dist_real : (N t : ℕ) → Real t (dist arcs N u t)
  unfolding Sound dist
  dist_real N t = sound_rounds N (start N u) (sound_start N) t

-- `t` is reached within `n` seconds.
abbrev pub AtMost : Distance → ℕ → Type 0
AtMost unreachable n = ⊥
AtMost (finite m) n = m ≤ n

sooner_left : (p q : Distance) (n : ℕ) → AtMost p n → AtMost (sooner p q) n
unfolding sooner
sooner_left unreachable q n h = absurd h
sooner_left (finite m) unreachable n h = h
sooner_left (finite m) (finite k) n h = omega arith

sooner_right : (p q : Distance) (n : ℕ) → AtMost q n → AtMost (sooner p q) n
unfolding sooner
sooner_right unreachable q n h = h
sooner_right (finite m) unreachable n h = absurd h
sooner_right (finite m) (finite k) n h = omega arith

later_most : (p : Distance) (n c : ℕ) → AtMost p n → AtMost (later p c) (n + c)
unfolding later
later_most unreachable n c h = h
later_most (finite m) n c h = omega arith

relax_keeps : (a : Arc) (ts : List Distance) (n v : ℕ) → AtMost (at ts v) n → AtMost (at (relax a ts) v) n
unfolding relax
relax_keeps a ts n = at_set (λ v p. AtMost (at ts v) n → AtMost p n) ts a.to _ (sooner_left (at ts a.to) _ n) (λ v h. h)

length_relax : (a : Arc) (ts : List Distance) → length (relax a ts) ≡ length ts
unfolding relax
length_relax a ts = simp length-set

relax_hits : (a : Arc) (ts : List Distance) (n : ℕ) → a.to < length ts → AtMost (at ts a.from) n → AtMost (at (relax a ts) a.to) (n + a.cost)
unfolding relax
relax_hits a ts n b h = rw (get_or-set_same ts a.to _ unreachable b) (sooner_right (at ts a.to) _ _ (later_most (at ts a.from) n a.cost h))

length_round : (bs : List Arc) (ts : List Distance) → length (round bs ts) ≡ length ts
unfolding round
length_round [] ts = refl
length_round (a ∷ bs) ts = rw (length_round bs (relax a ts), length_relax)

round_keeps : (bs : List Arc) (ts : List Distance) (n v : ℕ) → AtMost (at ts v) n → AtMost (at (round bs ts) v) n
unfolding round
round_keeps [] ts n v h = h
round_keeps (a ∷ bs) ts n v h = round_keeps bs (relax a ts) n v (relax_keeps a ts n v h)

round_hits : (bs : List Arc) (ts : List Distance) (a : Arc) (n : ℕ) → Mem a bs → a.to < length ts → AtMost (at ts a.from) n
    → AtMost (at (round bs ts) a.to) (n + a.cost)
unfolding round
round_hits [] ts a n i b h = absurd (Memᴰ.not-nil i)
round_hits (c ∷ bs) ts a n i b h = pick (round_hits bs (relax c ts) a n) (Memᴰ.cases_cons i)
  where
    pick : (Mem a bs → a.to < length (relax c ts) → AtMost (at (relax c ts) a.from) n → AtMost (at (round bs (relax c ts)) a.to) (n + a.cost))
        → (a ≡ c) ⊎ Mem a bs → AtMost (at (round bs (relax c ts)) a.to) (n + a.cost)
    pick rec (inl e) = round_keeps bs (relax c ts) _ _ (rw (← e) (relax_hits a ts n b h))
    pick rec (inr j) = rec j (rw length_relax b) (relax_keeps c ts n a.from h)

rounds_keeps : (k : ℕ) (arcs : List Arc) (ts : List Distance) (n v : ℕ) → AtMost (at ts v) n → AtMost (at (rounds k arcs ts) v) n
unfolding rounds
rounds_keeps zero arcs ts n v h = h
rounds_keeps (suc k) arcs ts n v h = rounds_keeps k arcs (round arcs ts) n v (round_keeps arcs ts n v h)

start_here : (N u : ℕ) → u < N → AtMost (at (start N u) u) 0
unfolding start
start_here N u h = rw (get_or-set_same (replicate N unreachable) u (finite 0) unreachable (rw length-replicate h)) (omega arith)

length_start : (N u : ℕ) → length (start N u) ≡ N
unfolding start
length_start N u = simp (length-set, length-replicate)

-- After as many rounds as a walk has arcs, its end is reached within its total.
pub rounds_hits : {arcs : List Arc} {v t n : ℕ} (w : Walk arcs v t n) (k : ℕ) (ts : List Distance) (x : ℕ) → hops w ≤ k → Within (length ts) arcs
    → AtMost (at ts v) x → AtMost (at (rounds k arcs ts) t) (x + n)
unfolding rounds hops
rounds_hits {arcs} stay k ts x s b h = rw add-zero (rounds_keeps k arcs ts x _ h)
rounds_hits (go a i w) zero ts x s b h = absurd (not-suc-le-zero s)
rounds_hits {arcs} (go a i w) (suc k) ts x s b h =
    rw (← add_assoc) (rounds_hits w k (round arcs ts) (x + a.cost) (omega arith) (rw length_round b) (round_hits arcs ts a x i (b a i).1 h))

pub dist_hits : {arcs : List Arc} {u t n : ℕ} (N : ℕ) (w : Walk arcs u t n) → hops w ≤ N → Within N arcs → u < N → AtMost (dist arcs N u t) n
unfolding dist
dist_hits {u = u} {n = n} N w s b h = rw zero-add at (rounds_hits w N (start N u) 0 s (rw length_start b) (start_here N u h))
