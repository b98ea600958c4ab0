-- The way: from each node on to the lowest-numbered next node that is on a least walk. Of all least walks its nodes come first.
-- Assumes nothing.
use Rattle.std.specs.Prelude.{◌≡◌, ◌⊎◌, ◌↔◌, Bool, true, ◌&&◌}
use Rattle.std.proofs.Math.Path.{refl, sym, ap}
use Rattle.std.proofs.Common.{◌∙◌, subst, inl, inr, true≢false}
use mathlib.Core.List.Memᴰ
use mathlib.Core.List.{List, [], ◌∷◌, Memᴰ}
use Prim.Native.Nat.{ℕ, zero, suc, ◌+◌, ◌≤◌, ◌<◌}
use native.Mathlib.Omega.{arith}
use Rattle.std.proofs.Math.Decide.{dec_le}
use Rattle.std.proofs.Math.Dec.{eqb}
use Rattle.theory.specs.Tests.{both, and, eqb-true, true-eqb}
use Rattle.model.specs.Lists.{least_of, filter}
use Rattle.model.specs.Distance.{Distance, unreachable, finite, plus, agree, IsLeast}
use Rattle.model.specs.Query.{nexts, onward, way_after, way_from}
use Rattle.theory.specs.Least.{time_inj, meets_unique}
use Rattle.theory.specs.Members.{filter→, →filter, map→, →map}
use Rattle.model.specs.Walk.{nodes_after, nodes_of, Before, Arc, Walk, Walk.stay, Walk.go, Least}
use Rattle.theory.specs.Walks.{one, part, Positive}
use Rattle.theory.specs.Extremes.{least_of_mem, least_of_le}

-- ---- the statement
-- d is the exact time to t
pub record Exact (arcs : List Arc) (t : ℕ) (d : ℕ → Distance) : Type 0 where
  pub times : (u n : ℕ) → (d u ≡ finite n) ↔ Least arcs u t n
  pub nones : (u : ℕ) → (d u ≡ unreachable) ↔ ((n : ℕ) → Walk arcs u t n → ⊥)

-- the same in the words of Time
pub exact_of : (arcs : List Arc) (t : ℕ) (d : ℕ → Distance) → ((u : ℕ) → IsLeast (Walk arcs u t) (d u)) → Exact arcs t d
exact_of arcs t d h = record {
  times = λ u n. (λ e. rw e at (h u), λ l. meets_unique (Walk arcs u t) (d u) (finite n) (h u) l);
  nones = λ u. (λ e. rw e at (h u), λ l. meets_unique (Walk arcs u t) (d u) unreachable (h u) l);
}

-- the way from u: no node where there is no walk
unfoldable pub way : (ℕ → Distance) → List Arc → ℕ → List ℕ
way d arcs u = way_from d arcs (d u) u

-- ---- of two lists one comes before the other, or they are the same
data Compared (l m : List ℕ) : Type 0 where
  same : l ≡ m → Compared l m
  less : Before l m → Compared l m
  more : Before m l → Compared l m

data Ordered (x y : ℕ) : Type 0 where
  eq : x ≡ y → Ordered x y
  lt : x < y → Ordered x y
  gt : y < x → Ordered x y

ordered : (x y : ℕ) → Ordered x y
ordered x y = step (dec_le x y) (dec_le y x)
  where
    step : Dec (x ≤ y) → Dec (y ≤ x) → Ordered x y
    step (yes p) (yes q) = eq (omega arith)
    step (yes p) (no q) = lt (omega arith)
    step (no p) (yes q) = gt (omega arith)
    step (no p) (no q) = gt (omega arith)

compared : (l m : List ℕ) → Compared l m
unfolding Before
compared [] [] = same refl
compared [] (y ∷ m) = less tt
compared (x ∷ l) [] = more tt
compared (x ∷ l) (y ∷ m) = step (ordered x y) (compared l m)
  where
    tails : x ≡ y → Compared l m → Compared (x ∷ l) (y ∷ m)
    tails e (same f) = same (cc)
    tails e (less b) = less (inr (e, b))
    tails e (more b) = more (inr (sym e, b))

    step : Ordered x y → Compared l m → Compared (x ∷ l) (y ∷ m)
    step (eq e) c = tails e c
    step (lt h) c = less (inl h)
    step (gt h) c = more (inl h)

-- Of two lists each cannot come before the other.
pub before_once : (l m : List ℕ) → Before l m → Before m l → ⊥
unfolding Before
before_once l [] b c = b
before_once [] (y ∷ m) b c = c
before_once (x ∷ l) (y ∷ m) (inl h) (inl k) = omega arith
before_once (x ∷ l) (y ∷ m) (inl h) (inr k) = omega (arith, k.0)
before_once (x ∷ l) (y ∷ m) (inr h) (inl k) = omega (arith, h.0)
before_once (x ∷ l) (y ∷ m) (inr h) (inr k) = before_once l m h.1 k.1

-- ---- what the next nodes are
pub record Step (d : ℕ → Distance) (arcs : List Arc) (u v : ℕ) : Type 0 where
  pub arc : Arc
  pub listed : Memᴰ arc arcs
  pub starts : arc.from ≡ u
  pub ends : arc.to ≡ v
  pub n : ℕ
  pub k : ℕ
  pub here : d u ≡ finite n
  pub there : d v ≡ finite k
  pub sum : arc.cost + k ≡ n

record Fits (h v : Distance) (c : ℕ) : Type 0 where
  n : ℕ
  k : ℕ
  here : h ≡ finite n
  there : v ≡ finite k
  sum : c + k ≡ n

abbrev fits : Distance → Distance → ℕ → Bool
fits h v c = agree (plus (finite c) v) h

fits→ : (h v : Distance) (c : ℕ) → fits h v c ≡ true → Fits h v c
unfolding agree plus
fits→ (finite n) (finite k) c e = record { n = n; k = k; here = refl; there = refl; sum = eqb-true e }
fits→ unreachable (finite k) c e = absurd (true≢false (sym e))
fits→ h unreachable c e = absurd (true≢false (sym e))

→fits : {h v : Distance} {n k : ℕ} (c : ℕ) → h ≡ finite n → v ≡ finite k → c + k ≡ n → fits h v c ≡ true
unfolding agree plus
→fits c p q e = rw (p, q) (true-eqb e)

module _ (d : ℕ → Distance) where
  abbrev test : ℕ → Arc → Bool
  test u a = eqb a.from u && agree (plus (finite a.cost) (d a.to)) (d u)

  pub nexts→ : (arcs : List Arc) (u : ℕ) {v : ℕ} → Memᴰ v (nexts d arcs u) → Step d arcs u v
  unfolding nexts
  nexts→ arcs u {v} m =
      let r = map→ (λ a. a.to) (filter (test u) arcs) m in
      let g = filter→ (test u) arcs r.1 in
      let b = both {b = eqb r.0.from u} g.1 in
      let f = fits→ (d u) (d r.0.to) r.0.cost b.1 in
      record {
        arc = r.0;
        listed = g.0;
        starts = eqb-true b.0;
        ends = sym r.2;
        n = f.n;
        k = f.k;
        here = f.here;
        there = ap d r.2
            ∙ f.there;
        sum = f.sum;
      }

  pub →nexts : (arcs : List Arc) (u v : ℕ) → Step d arcs u v → Memᴰ v (nexts d arcs u)
  unfolding nexts
  →nexts arcs u v s =
      let there : d s.arc.to ≡ finite s.k = ap d s.ends ∙ s.there in
      Memᴰ.cast (sym s.ends) (→map (λ a. a.to) (filter (test u) arcs)
      (→filter (test u) arcs s.listed (and (true-eqb s.starts) (→fits s.arc.cost s.here there s.sum))))

-- ---- the way is a least walk, and the first
module _ (arcs : List Arc) (t : ℕ) (d : ℕ → Distance) (exact : Exact arcs t d) (positive : Positive arcs) where
  -- the first arc of a least walk leads to a next node
  pub then_exact : (a : Arc) → Memᴰ a arcs → {k : ℕ} → Walk arcs a.to t k → d a.from ≡ finite (a.cost + k) → d a.to ≡ finite k
  then_exact a m {k} w e = (exact.times a.to k).1 (part ((exact.times a.from (a.cost + k)).0 e) (one a m) w stay (omega arith))

  pub first_step : (a : Arc) → Memᴰ a arcs → {k : ℕ} → Walk arcs a.to t k → d a.from ≡ finite (a.cost + k) → Step d arcs a.from a.to
  first_step a m {k} w e = record { arc = a; listed = m; starts = refl; ends = refl; n = a.cost + k; k = k; here = e; there = then_exact a m w e; sum = refl }

  -- a next node is a positive time nearer
  nearer : {u v : ℕ} (s : Step d arcs u v) → s.k < s.n
  nearer s = omega (arith, positive s.arc s.listed, s.sum)

  -- the step to the lowest of the next nodes
  to_lowest : (u v : ℕ) (vs : List ℕ) → nexts d arcs u ≡ v ∷ vs → Step d arcs u (least_of v vs)
  to_lowest u v vs q = nexts→ d arcs u (rw q (least_of_mem v vs))

  pub first_after : (f : ℕ) {u n : ℕ} → d u ≡ finite n → (w : Walk arcs u t n) → Before (nodes_after w) (way_after d arcs f u) → ⊥
  unfolding Before way_after onward nodes_after
  first_after zero e w b = b
  first_after (suc f) {u} e stay b = step (nexts d arcs u) refl b
    where
      step : (l : List ℕ) → nexts d arcs u ≡ l → Before [] (onward l (λ x. x ∷ way_after d arcs f x)) → ⊥
      step [] q b = b
      step (v ∷ vs) q b = let s = to_lowest u v vs q in omega (arith, nearer s, time_inj (sym e ∙ s.here))
  first_after (suc f) e (go {n = k} a m w) b = step (nexts d arcs a.from) refl b (λ b'. first_after f (then_exact a m w e) w b')
    where
      s : Step d arcs a.from a.to
      s = first_step a m w e

      step : (l : List ℕ) → nexts d arcs a.from ≡ l → Before (a.to ∷ nodes_after w) (onward l (λ x. x ∷ way_after d arcs f x))
          → (Before (nodes_after w) (way_after d arcs f a.to) → ⊥) → ⊥
      step [] q b rest = b
      step (v ∷ vs) q (inl h) rest = omega (arith, least_of_le v vs (rw q at (→nexts d arcs a.from a.to s)))
      step (v ∷ vs) q (inr h) rest = rest (subst (λ x. Before (nodes_after w) (way_after d arcs f x)) (sym h.0) h.1)

  -- a walk with these nodes after its first
  abbrev Taking : ℕ → ℕ → List ℕ → Type 0
  Taking u n l = (w : Walk arcs u t n) × (nodes_after w ≡ l)

  extend : (a : Arc) → Memᴰ a arcs → {u x k n : ℕ} {l : List ℕ} → a.from ≡ u → a.to ≡ x → a.cost + k ≡ n → Taking x k l → Taking u n (x ∷ l)
  unfolding nodes_after
  extend a m {k = k} {l = l} p q r z =
      let z' : Taking a.to k l = rw q z in
      rw (← p, ← q, ← r) (go a m z'.0, ap (λ y. a.to ∷ y) z'.1)

  -- a walk with no arc to go on by
  ended : {u n : ℕ} (w : Walk arcs u t n) → ((v : ℕ) → Step d arcs u v → ⊥) → d u ≡ finite n → Taking u n []
  unfolding nodes_after
  ended stay stuck e = (stay, refl)
  ended (go a m w) stuck e = absurd (stuck a.to (first_step a m w e))

  pub walk_after : (f : ℕ) {u n : ℕ} → n ≤ f → d u ≡ finite n → Taking u n (way_after d arcs f u)
  unfolding way_after onward
  walk_after zero {u} {n} h e = ended ((exact.times u n).0 e).has (λ v s. omega (arith, nearer s, time_inj (sym e ∙ s.here))) e
  walk_after (suc f) {u} {n} h e = step (nexts d arcs u) refl (λ v k g z. walk_after f g z)
    where
      step : (l : List ℕ) → nexts d arcs u ≡ l → ((v k : ℕ) → k ≤ f → d v ≡ finite k → Taking v k (way_after d arcs f v))
          → Taking u n (onward l (λ x. x ∷ way_after d arcs f x))
      step [] q rest = ended ((exact.times u n).0 e).has (λ v s. Memᴰ.not-nil (rw q at (→nexts d arcs u v s))) e
      step (v ∷ vs) q rest =
          let s = to_lowest u v vs q in
          let i = time_inj (sym e ∙ s.here) in
          extend s.arc s.listed s.starts s.ends (s.sum ∙ sym i) (rest (least_of v vs) s.k (omega (arith, nearer s)) s.there)

  -- the way from u is the list of nodes of a least walk
  pub way_walk : {u n : ℕ} → Least arcs u t n → (w : Walk arcs u t n) × (nodes_of w ≡ way d arcs u)
  unfolding nodes_of way way_from
  way_walk {u} {n} l =
      let e = (exact.times u n).1 l in
      let r = walk_after n (omega arith) e in
      (r.0, rw e (ap (λ y. u ∷ y) r.1))

  -- and no least walk's nodes come before it
  pub way_first : {u n : ℕ} → Least arcs u t n → (w : Walk arcs u t n) → Before (nodes_of w) (way d arcs u) → ⊥
  unfolding nodes_of way way_from Before
  way_first {u} {n} l w b =
      let e = (exact.times u n).1 l in
      step (rw e at b)
    where
      step : (u < u) ⊎ ((u ≡ u) × Before (nodes_after w) (way_after d arcs n u)) → ⊥
      step (inl h) = omega arith
      step (inr h) = first_after n ((exact.times u n).1 l) w h.1

  -- where there is no walk the way is empty
  pub way_none : {u : ℕ} → ((n : ℕ) → Walk arcs u t n → ⊥) → way d arcs u ≡ []
  unfolding way way_from
  way_none {u} h = rw ((exact.nones u).1 h) refl

  -- each other least walk's nodes come after it
  pub way_order : {u n : ℕ} → Least arcs u t n → (w : Walk arcs u t n) → (nodes_of w ≡ way d arcs u) ⊎ Before (way d arcs u) (nodes_of w)
  way_order {u} l w = step (compared (nodes_of w) (way d arcs u))
    where
      step : Compared (nodes_of w) (way d arcs u) → (nodes_of w ≡ way d arcs u) ⊎ Before (way d arcs u) (nodes_of w)
      step (same e) = inl e
      step (less b) = absurd (way_first l w b)
      step (more b) = inr b
