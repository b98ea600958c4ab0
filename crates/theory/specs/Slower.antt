-- Walks over arcs whose costs have changed: the same nodes can be walked, at a cost that rises by no more than the arcs taken do; and where only the arcs
-- between two nodes rise, a least walk rises once at the most. Assumes nothing.
use Rattle.std.specs.Prelude.{ℕ, ◌+◌, ◌*◌, ◌≤◌, ◌≡◌, ◌⊎◌, ◌↔◌, Bool, ◌&&◌, ◌||◌, cond}
use native.Mathlib.Omega.{arith}
use Rattle.std.proofs.Math.Path.{refl, sym}
use Rattle.std.proofs.Common.{◌∙◌, ap}
use Rattle.std.proofs.Math.Logic.{inl, inr}
use Rattle.std.proofs.Math.Bool.{true, false, or-true}
use mathlib.Core.List.{List, ◌∷◌, Memᴰ}
use Rattle.std.proofs.Math.Dec.{eqb}
use Rattle.model.specs.Lists.{Distinct, concat_map}
use Rattle.model.specs.Pair.{hop_base, key}
use Rattle.model.specs.Walk.{Arc, Mem, Walk, stay, go, Least, nodes_after, nodes_of}
use Rattle.model.specs.Network.{Edge, arcs_of}
use Rattle.theory.specs.Tests.{both, eqb-true, true-eqb}
use Rattle.theory.specs.Members.{→concat_map}
use Rattle.theory.specs.Walks.{Positive}
use Rattle.theory.specs.Sound.{arc_of}

-- ---- the same nodes over other arcs

-- `es` has an arc from u to v of a cost of at most c.
pub record HasArc (es : List Arc) (u v c : ℕ) : Type 0 where
  pub arc : Arc
  pub listed : Mem arc es
  pub starts : arc.from ≡ u
  pub ends : arc.to ≡ v
  pub cost : arc.cost ≤ c

-- Each arc of `es` has one of `fs` between the same nodes, which costs more by r of the two at the most.
abbrev pub Rising : (ℕ → ℕ → ℕ) → List Arc → List Arc → Type 0
Rising r es fs = (a : Arc) → Mem a es → HasArc fs a.from a.to (a.cost + r a.from a.to)

-- What a walk rises by, where an arc from u to v rises by r u v.
unfoldable pub rise : (ℕ → ℕ → ℕ) → {arcs : List Arc} {u t n : ℕ} → Walk arcs u t n → ℕ
rise r stay = 0
rise r (go a m w) = r a.from a.to + rise r w

-- A walk with these nodes after its first.
abbrev pub Taking : List Arc → ℕ → ℕ → ℕ → List ℕ → Type 0
Taking es u t n l = (w : Walk es u t n) × (nodes_after w ≡ l)

pub extend : {es : List Arc} (a : Arc) → Mem a es → {u x t k n : ℕ} {l : List ℕ} → a.from ≡ u → a.to ≡ x → a.cost + k ≡ n → Taking es x t k l
    → Taking es u t n (x ∷ l)
unfolding nodes_after
extend {es} a m {t = t} {k = k} {l = l} p q r z =
    let z' : Taking es a.to t k l = rw q z in
    rw (← p, ← q, ← r) (go a m z'.0, ap (λ y. a.to ∷ y) z'.1)

pub walked_again : (r : ℕ → ℕ → ℕ) (es fs : List Arc) → Rising r es fs → {u t n : ℕ} (w : Walk es u t n)
    → (k : ℕ) × Taking fs u t k (nodes_after w) × (k ≤ n + rise r w)
unfolding nodes_after rise
walked_again r es fs rising stay = (0, (stay, refl), omega arith)
walked_again r es fs rising (go a m w) =
    let b = rising a m in
    let z = walked_again r es fs rising w in
    (b.arc.cost + z.0, extend b.arc b.listed b.starts b.ends refl z.1, omega (arith, b.cost, z.2))

-- ---- arcs that only go, and costs that only rise

-- Nothing rises.
abbrev pub still : ℕ → ℕ → ℕ
still u v = 0

no_rise : {arcs : List Arc} {u t n : ℕ} (w : Walk arcs u t n) → rise still w ≡ 0
unfolding rise
no_rise stay = refl
no_rise (go a m w) = omega (arith, no_rise w)

-- Each arc of `new` was there before, between the same nodes and no slower.
abbrev pub Slower : List Arc → List Arc → Type 0
Slower old new = Rising still new old

module _ (old new : List Arc) (slower : Slower old new) where
  -- The same nodes were walked before, at no more cost.
  pub was_walked : {u t n : ℕ} (w : Walk new u t n) → (k : ℕ) × Taking old u t k (nodes_after w) × (k ≤ n)
  was_walked w = let z = walked_again still new old slower w in (z.0, z.1, omega (arith, z.2, no_rise w))

  -- What is least among more and quicker walks is least.
  pub still_least : {u t n : ℕ} → Least old u t n → Walk new u t n → Least new u t n
  still_least l w = record { has = w; least = λ m v. let r = was_walked v in omega (arith, l.least r.0 r.1.0, r.2) }

  pub still_none : {u t : ℕ} → ((n : ℕ) → Walk old u t n → ⊥) → (n : ℕ) → Walk new u t n → ⊥
  still_none h n w = let r = was_walked w in h r.0 r.1.0

-- ---- arcs between two nodes alone

-- An arc from u to v runs between x and y, either way.
abbrev Joined : ℕ → ℕ → ℕ → ℕ → Type 0
Joined x y u v = ((u ≡ x) × (v ≡ y)) ⊎ ((u ≡ y) × (v ≡ x))

unfoldable pub joins : ℕ → ℕ → ℕ → ℕ → Bool
joins x y u v = (eqb u x && eqb v y) || (eqb u y && eqb v x)

-- It rises by k there, and nowhere else.
unfoldable pub between : ℕ → ℕ → ℕ → ℕ → ℕ → ℕ
between x y k u v = cond (joins x y u v) k 0

-- It does so in both directions.
pub rises_there : (x y k : ℕ) → between x y k x y ≡ k
unfolding between joins
rises_there x y k = rw (true-eqb {m = x} refl, true-eqb {m = y} refl)

pub rises_back : (x y k : ℕ) → between x y k y x ≡ k
unfolding between joins
rises_back x y k = rw (true-eqb {m = x} refl, true-eqb {m = y} refl, or-true (eqb y x && eqb x y))

module _ (x y : ℕ) where
  joined : (u v : ℕ) → joins x y u v ≡ true → Joined x y u v
  unfolding joins
  joined u v h = step (eqb u x && eqb v y) refl h
    where
      step : (b : Bool) → eqb u x && eqb v y ≡ b → b || (eqb u y && eqb v x) ≡ true → Joined x y u v
      step true q h = let p = both {b = eqb u x} q in inl (eqb-true p.0, eqb-true p.1)
      step false q h = let p = both {b = eqb u y} h in inr (eqb-true p.0, eqb-true p.1)

  module _ (k : ℕ) where
    -- A walk that does not pass x, or does not pass y, does not rise.
    passed_by : {arcs : List Arc} {u t n : ℕ} (w : Walk arcs u t n) (z : ℕ) → (z ≡ x) ⊎ (z ≡ y) → (Memᴰ z (nodes_of w) → ⊥) → rise (between x y k) w ≡ 0
    unfolding rise nodes_of nodes_after between
    passed_by stay z e h = refl
    passed_by (go a m w) z e h = step (joins x y a.from a.to) refl (passed_by w z e (λ i. h (Memᴰ.tail i)))
      where
        passes : Joined x y a.from a.to → (z ≡ x) ⊎ (z ≡ y) → ⊥
        passes (inl p) (inl e) = h (Memᴰ.head (e ∙ sym p.0))
        passes (inl p) (inr e) = h (Memᴰ.tail (Memᴰ.head (e ∙ sym p.1)))
        passes (inr p) (inl e) = h (Memᴰ.tail (Memᴰ.head (e ∙ sym p.1)))
        passes (inr p) (inr e) = h (Memᴰ.head (e ∙ sym p.0))

        step : (b : Bool) → joins x y a.from a.to ≡ b → rise (between x y k) w ≡ 0 → cond b k 0 + rise (between x y k) w ≡ 0
        step true q r = absurd (passes (joined a.from a.to q) e)
        step false q r = omega arith

    -- A walk that passes no node twice goes between x and y once at the most, so that it rises by at most k. (With k of 1 this counts how often it does.)
    pub once : {arcs : List Arc} {u t n : ℕ} (w : Walk arcs u t n) → Distinct (nodes_of w) → rise (between x y k) w ≤ k
    unfolding rise nodes_of nodes_after between Distinct
    once stay d = omega arith
    once (go a m w) d = step (joins x y a.from a.to) refl (once w d.1)
      where
        starts : Joined x y a.from a.to → (a.from ≡ x) ⊎ (a.from ≡ y)
        starts (inl p) = inl p.0
        starts (inr p) = inr p.0

        step : (b : Bool) → joins x y a.from a.to ≡ b → rise (between x y k) w ≤ k → cond b k 0 + rise (between x y k) w ≤ k
        step true q r = omega (arith, passed_by w a.from (starts (joined a.from a.to q)) d.0)
        step false q r = omega arith

    module _ (old new : List Arc) (above : Positive old) (slower : Slower old new) (rising : Rising (between x y k) old new) where
      -- There is a walk over the one where there is one over the other.
      pub none_both : {u t : ℕ} → ((n : ℕ) → Walk old u t n → ⊥) ↔ ((n : ℕ) → Walk new u t n → ⊥)
      none_both = (still_none old new slower, λ h n w. let z = walked_again (between x y k) old new rising w in h z.0 z.1.0)

-- ---- edges, whose arcs cost keys

-- An edge that takes n seconds more.
abbrev pub later : ℕ → Edge → Edge
later n e = record { first = e.first; second = e.second; seconds = e.seconds + n }

-- An edge of `es` with the ends of e and no more seconds.
pub record Comes (es : List Edge) (e : Edge) : Type 0 where
  pub old : Edge
  pub listed : Memᴰ old es
  pub first : old.first ≡ e.first
  pub second : old.second ≡ e.second
  pub seconds : old.seconds ≤ e.seconds

-- Each edge comes from itself.
pub comes_itself : (es : List Edge) (e : Edge) → Memᴰ e es → Comes es e
comes_itself es e m = record { old = e; listed = m; first = refl; second = refl; seconds = omega arith }

module _ (es : List Edge) {e : Edge} (k : Comes es e) {c : ℕ} (h : key e.seconds 1 ≤ c) where
  onward : HasArc (concat_map arcs_of es) e.first e.second c
  unfolding arcs_of
  onward = record {
    arc = record { from = k.old.first; to = k.old.second; cost = key k.old.seconds 1 };
    listed = →concat_map arcs_of es k.listed (Memᴰ.head refl);
    starts = k.first;
    ends = k.second;
    cost = omega (arith, k.seconds);
  }

  homeward : HasArc (concat_map arcs_of es) e.second e.first c
  unfolding arcs_of
  homeward = record {
    arc = record { from = k.old.second; to = k.old.first; cost = key k.old.seconds 1 };
    listed = →concat_map arcs_of es k.listed (Memᴰ.tail (Memᴰ.head refl));
    starts = k.second;
    ends = k.first;
    cost = omega (arith, k.seconds);
  }

-- Where each edge of `new` comes from one of `old`, arcs only go and costs only rise.
pub slower_arcs : (old new : List Edge) → ((e : Edge) → Memᴰ e new → Comes old e) → Slower (concat_map arcs_of old) (concat_map arcs_of new)
slower_arcs old new comes =
    arc_of (λ u v c. HasArc (concat_map arcs_of old) u v (c + still u v)) new
    (λ e m. onward old (comes e m) (omega arith)) (λ e m. homeward old (comes e m) (omega arith))

-- Where each edge of `old` is there again, or joins x and y and is there again k seconds slower, arcs between x and y rise by k seconds at the most and the
-- others by nothing.
pub data Again (x y k : ℕ) (new : List Edge) (e : Edge) : Type 0 where
  as_quick : Comes new e → Again x y k new e
  risen : e.first ≡ x → e.second ≡ y → Comes new (later k e) → Again x y k new e

pub rising_arcs : (x y k : ℕ) (old new : List Edge) → ((e : Edge) → Memᴰ e old → Again x y k new e)
    → Rising (between x y (hop_base * k)) (concat_map arcs_of old) (concat_map arcs_of new)
rising_arcs x y k old new again =
    arc_of (λ u v c. HasArc (concat_map arcs_of new) u v (c + between x y (hop_base * k) u v)) old (λ e m. there (again e m)) (λ e m. back (again e m))
  where
    there : {e : Edge} → Again x y k new e
        → HasArc (concat_map arcs_of new) e.first e.second (key e.seconds 1 + between x y (hop_base * k) e.first e.second)
    there (as_quick c) = onward new c (omega arith)
    there (risen p q c) = onward new c (rw (p, q, rises_there x y (hop_base * k)) (omega arith))

    back : {e : Edge} → Again x y k new e
        → HasArc (concat_map arcs_of new) e.second e.first (key e.seconds 1 + between x y (hop_base * k) e.second e.first)
    back (as_quick c) = homeward new c (omega arith)
    back (risen p q c) = homeward new c (rw (p, q, rises_back x y (hop_base * k)) (omega arith))
