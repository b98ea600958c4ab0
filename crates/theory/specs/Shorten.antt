-- Every walk among `N` nodes can be cut to one of fewer than `N` arcs that takes no longer. Assumes nothing.
use Rattle.std.specs.Prelude.{ℕ, zero, suc, ◌+◌, ◌*◌, ◌≤◌, ◌<◌, ◌≡◌, refl, ◌≢◌, ◌⊎◌, length}
use Rattle.std.proofs.Common.{suc-mul, arith, sym, subst, inl, inr}
use Rattle.std.proofs.Math.Decide.{ℕ_discrete}
use mathlib.Core.List.Memᴰ
use mathlib.Core.List.{List, [], ◌∷◌, Memᴰ}
use Rattle.model.specs.Lists.{up_to}
use Rattle.theory.specs.RangeLaws.{length-range}
use Rattle.theory.specs.Members.{→up_to}
use Rattle.model.specs.Walk.{Arc, Mem, Walk, stay, go, hops}
use Rattle.theory.specs.Walks.{Within, Costs}

-- `x` in front, unless it is `p`.
keep : {x p : ℕ} → Dec (x ≡ p) → List ℕ → List ℕ
keep (yes e) s = s
keep {x} (no n) s = x ∷ s

-- The nodes of `s` that are not `p`.
pub remove : ℕ → List ℕ → List ℕ
remove p [] = []
remove p (x ∷ s) = keep (ℕ_discrete x p) (remove p s)

remove_le : (p : ℕ) (s : List ℕ) → length (remove p s) ≤ length s
unfolding remove keep
remove_le p [] = omega arith
remove_le p (x ∷ s) = pick (ℕ_discrete x p) (remove_le p s)
  where
    pick : (d : Dec (x ≡ p)) → length (remove p s) ≤ length s → length (keep d (remove p s)) ≤ suc (length s)
    pick (yes e) h = omega arith
    pick (no n) h = omega arith

pub remove_lt : (p : ℕ) (s : List ℕ) → Memᴰ p s → length (remove p s) < length s
unfolding remove keep
remove_lt p [] i = absurd (Memᴰ.not-nil i)
remove_lt p (x ∷ s) i = pick (ℕ_discrete x p) (Memᴰ.cases_cons i) (remove_lt p s)
  where
    pick : (d : Dec (x ≡ p)) → (p ≡ x) ⊎ Memᴰ p s → (Memᴰ p s → length (remove p s) < length s) → length (keep d (remove p s)) < suc (length s)
    pick (yes e) j h = omega (arith, remove_le p s)
    pick (no n) (inl e) h = absurd (n (sym e))
    pick (no n) (inr j) h = omega (arith, h j)

pub remove_mem : (p v : ℕ) (s : List ℕ) → Memᴰ v s → v ≢ p → Memᴰ v (remove p s)
unfolding remove keep
remove_mem p v [] i n = absurd (Memᴰ.not-nil i)
remove_mem p v (x ∷ s) i n = pick (ℕ_discrete x p) (Memᴰ.cases_cons i) (λ j. remove_mem p v s j n)
  where
    pick : (d : Dec (x ≡ p)) → (v ≡ x) ⊎ Memᴰ v s → (Memᴰ v s → Memᴰ v (remove p s)) → Memᴰ v (keep d (remove p s))
    pick (yes e) (inl f) h = absurd (n (rw e at f))
    pick (yes e) (inr j) h = h j
    pick (no m) (inl f) h = Memᴰ.head f
    pick (no m) (inr j) h = Memᴰ.tail (h j)

-- A walk whose nodes are all in `s`.
data Tour (arcs : List Arc) (s : List ℕ) : ℕ → ℕ → ℕ → Type 0 where
  here : {u : ℕ} → Memᴰ u s → Tour arcs s u u 0
  step : {t n : ℕ} (a : Arc) → Mem a arcs → Memᴰ a.from s → Tour arcs s a.to t n → Tour arcs s a.from t (a.cost + n)

tour : {arcs : List Arc} {u t n : ℕ} (N : ℕ) → Within N arcs → u < N → Walk arcs u t n → Tour arcs (up_to N) u t n
tour N b h stay = here (→up_to N _ h)
tour N b h (go a i w) = step a i (→up_to N _ h) (tour N b (b a i).1 w)

-- Behind the last visit to `p`, a tour does without `p`.
data Cut (arcs : List Arc) (s : List ℕ) (p v t n : ℕ) : Type 0 where
  avoids : Tour arcs (remove p s) v t n → Cut arcs s p v t n
  ends : p ≡ t → Cut arcs s p v t n
  leaves : (a : Arc) (m : ℕ) → Mem a arcs → a.from ≡ p → Tour arcs (remove p s) a.to t m → a.cost + m ≤ n → Cut arcs s p v t n

cut : {arcs : List Arc} {s : List ℕ} {v t n : ℕ} (p : ℕ) → Tour arcs s v t n → Cut arcs s p v t n
cut {arcs} {s} p (here {u = u} i) = pick (ℕ_discrete p u)
  where
    pick : Dec (p ≡ u) → Cut arcs s p u u 0
    pick (yes e) = ends e
    pick (no n) = avoids (here (remove_mem p u s i (λ e. n (sym e))))
cut {arcs} {s} p (step {t = t} {n = n} a i j w) = pick (ℕ_discrete a.from p) (cut p w)
  where
    pick : Dec (a.from ≡ p) → Cut arcs s p a.to t n → Cut arcs s p a.from t (a.cost + n)
    pick (yes e) (avoids w') = leaves a n i e w' (omega arith)
    pick (no m) (avoids w') = avoids (step a i (remove_mem p a.from s j m) w')
    pick d (ends e) = ends e
    pick d (leaves b m k e w' h) = leaves b m k e w' (omega arith)

-- A walk of fewer than `k` arcs that takes at most `n`.
pub record Short (arcs : List Arc) (k u t n : ℕ) : Type 0 where
  pub total : ℕ
  pub walk : Walk arcs u t total
  pub less : total ≤ n
  pub few : hops walk < k

more : {arcs : List Arc} {k t m n : ℕ} (a : Arc) → Mem a arcs → a.cost + m ≤ n → Short arcs k a.to t m → Short arcs (suc k) a.from t n
unfolding hops
more a i h r = record { total = a.cost + r.total; walk = go a i r.walk; less = omega arith; few = omega arith }

done : {arcs : List Arc} {k u t n : ℕ} → u ≡ t → Short arcs (suc k) u t n
unfolding hops
done {arcs} {k} {u} {t} {n} e = subst (λ (t : ℕ). Short arcs (suc k) u t n) e at_once
  where
    at_once : Short arcs (suc k) u u n
    at_once = record { total = 0; walk = stay; less = omega arith; few = omega arith }

shorten_tour : {arcs : List Arc} {u t n : ℕ} (k : ℕ) (s : List ℕ) → length s ≤ k → Tour arcs s u t n → Short arcs k u t n
shorten_tour zero s h (here i) = absurd (omega (arith, remove_lt _ s i))
shorten_tour zero s h (step a i j w) = absurd (omega (arith, remove_lt _ s j))
shorten_tour (suc k) s h (here i) = done refl
shorten_tour {arcs} (suc k) s h (step {t = t} {n = n} a i j w) = pick (λ v m. shorten_tour {u = v} {n = m} k (remove a.from s)
    (omega (arith, remove_lt _ s j))) (cut a.from w)
  where
    pick : ((v m : ℕ) → Tour arcs (remove a.from s) v t m → Short arcs k v t m) → Cut arcs s a.from a.to t n
        → Short arcs (suc k) a.from t (a.cost + n)
    pick rec (avoids w') = more a i (omega arith) (rec a.to n w')
    pick rec (ends e) = done e
    pick rec (leaves b m l e w' le) = rw (← e) (more b l (omega arith) (rec b.to m w'))

pub shorten : {arcs : List Arc} {u t n : ℕ} (N : ℕ) → Within N arcs → u < N → Walk arcs u t n → Short arcs N u t n
shorten N b h w = shorten_tour N (up_to N) (omega (arith, length-range 0 N)) (tour N b h w)

-- A walk costs at most `K` an arc.
pub costs_hops : {arcs : List Arc} {u t n : ℕ} (K : ℕ) → Costs K arcs → (w : Walk arcs u t n) → n ≤ hops w * K
unfolding hops
costs_hops K c stay = omega arith
costs_hops K c (go a i w) = rw suc-mul (omega (arith, c a i, costs_hops K c w))
