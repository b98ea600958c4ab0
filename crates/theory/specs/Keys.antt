-- Keys and pairs: where arcs cost the keys of their seconds and one hop, a least total is the key of the least pair over all walks, those with
-- 65,536 hops and more included. Keys are compared and added as pairs are. Assumes nothing.
use Prim.Native.Nat.{ℕ, suc, ◌+◌, ◌≤◌, ◌<◌}
use native.Mathlib.Omega.{arith}
use Rattle.std.proofs.Math.Decide.{dec_le}
use Rattle.std.specs.Prelude.{◌≡◌, ◌⊎◌, ◌↔◌, List, ◌∷◌}
use Rattle.std.proofs.Math.Path.{refl, ap, subst}
use Rattle.std.proofs.Common.{sym, ◌∙◌}
use Rattle.std.proofs.Math.Logic.{inl, inr}
use Rattle.model.specs.Pair.{Pair, NoMore, add, LeastPairOf, hop_base, key, pair_of, seconds_of, hops_of}
use Rattle.model.specs.Walk.{Arc, Mem, Walk, stay, go, hops, PairWalk, LeastPair, Least, nodes_after}
use Rattle.theory.specs.Walks.{Within}
use Rattle.theory.specs.Shorten.{Short, shorten}

-- ---- numbers

abbrev pub key_of : Pair → ℕ
key_of p = key p.seconds p.hops

pub key_of_pair : (k : ℕ) → key_of (pair_of k) ≡ k
key_of_pair k = omega arith

pub pair_of_key : (p : Pair) → p.hops < hop_base → pair_of (key_of p) ≡ p
pair_of_key p h =
    let a : seconds_of (key_of p) ≡ p.seconds = omega arith in
    let b : hops_of (key_of p) ≡ p.hops = omega arith in
    λ i. record { seconds = a i; hops = b i }

-- Keys are ordered as the pairs are.
order_there : (j k : ℕ) → j ≤ k → NoMore (pair_of j) (pair_of k)
unfolding NoMore
order_there j k h = step (dec_le (seconds_of k) (seconds_of j))
  where
    step : Dec (seconds_of k ≤ seconds_of j) → (seconds_of j < seconds_of k) ⊎ ((seconds_of j ≡ seconds_of k) × (hops_of j ≤ hops_of k))
    step (yes e) = inr (omega arith, omega arith)
    step (no e) = inl (omega arith)

order_back : (j k : ℕ) → NoMore (pair_of j) (pair_of k) → j ≤ k
unfolding NoMore
order_back j k (inl h) = omega arith
order_back j k (inr h) = omega (arith, h.0, h.1)

pub key_order : (j k : ℕ) → (j ≤ k) ↔ NoMore (pair_of j) (pair_of k)
key_order j k = (order_there j k, order_back j k)

-- There is one least pair.
pub one_least : (P : Pair → Type 0) (p q : Pair) → LeastPairOf P p → LeastPairOf P q → p ≡ q
unfolding NoMore
one_least P p q l m = same (l.least q m.has) (m.least p l.has)
  where
    same : (p.seconds < q.seconds) ⊎ ((p.seconds ≡ q.seconds) × (p.hops ≤ q.hops))
        → (q.seconds < p.seconds) ⊎ ((q.seconds ≡ p.seconds) × (q.hops ≤ p.hops)) → p ≡ q
    same (inl h) (inl k) = absurd (omega (arith, h, k))
    same (inl h) (inr k) = absurd (omega (arith, h, k.0))
    same (inr h) (inl k) = absurd (omega (arith, h.0, k))
    same (inr h) (inr k) =
        let a : p.seconds ≡ q.seconds = h.0 in
        let b : p.hops ≡ q.hops = omega (arith, h.1, k.1) in
        λ i. record { seconds = a i; hops = b i }

-- Keys are added as the pairs are, while the hops stay below 65,536: so for two values and for three, of at most 4,095 hops each.
pub key_sum : (j k : ℕ) → hops_of j + hops_of k < hop_base → pair_of (j + k) ≡ add (pair_of j) (pair_of k)
unfolding add
key_sum j k h =
    let a : seconds_of (j + k) ≡ seconds_of j + seconds_of k = omega arith in
    let b : hops_of (j + k) ≡ hops_of j + hops_of k = omega arith in
    λ i. record { seconds = a i; hops = b i }

pub key_sum₃ : (i j k : ℕ) → hops_of i + hops_of j + hops_of k < hop_base → pair_of (i + j + k) ≡ add (add (pair_of i) (pair_of j)) (pair_of k)
unfolding add
key_sum₃ i j k h =
    let a : seconds_of (i + j + k) ≡ seconds_of i + seconds_of j + seconds_of k = omega arith in
    let b : hops_of (i + j + k) ≡ hops_of i + hops_of j + hops_of k = omega arith in
    λ z. record { seconds = a z; hops = b z }

-- ---- walks

-- The seconds of the least pair are the least total of seconds.
pub seconds_least : {timed : List Arc} {u t : ℕ} {p : Pair} → LeastPair timed u t p → Least timed u t p.seconds
unfolding NoMore
seconds_least {p = p} l = record {
  has = l.has.walk;
  least = λ m w. step m (hops w) (l.least (record { seconds = m; hops = hops w }) (record { walk = w; its_hops = refl }));
}
  where
    step : (m h : ℕ) → (p.seconds < m) ⊎ ((p.seconds ≡ m) × (p.hops ≤ h)) → p.seconds ≤ m
    step m h (inl l) = omega arith
    step m h (inr e) = omega (arith, e.0)

-- An arc of so many seconds, with the key of its pair.
abbrev pub keyed : Arc → Arc
keyed a = record { from = a.from; to = a.to; cost = key a.cost 1 }

-- `arcs` are the arcs of `timed`, with the keys of their pairs.
pub record Keyed (timed arcs : List Arc) : Type 0 where
  pub there : (a : Arc) → Mem a timed → Mem (keyed a) arcs
  pub back : (a : Arc) → Mem a arcs → (b : Arc) × Mem b timed × (a ≡ keyed b)

-- A timed walk of h hops whose pair has the key k, with these nodes after its first.
pub record Timed (timed : List Arc) (u t k : ℕ) (nodes : List ℕ) (h : ℕ) : Type 0 where
  pub seconds : ℕ
  pub walk : Walk timed u t seconds
  pub total : k ≡ key seconds (hops walk)
  pub along : nodes_after walk ≡ nodes
  pub count : hops walk ≡ h

-- A walk by keys, with these nodes after its first.
abbrev Alike : List Arc → ℕ → ℕ → ℕ → List ℕ → Type 0
Alike arcs u t k nodes = (w : Walk arcs u t k) × (nodes_after w ≡ nodes)

module _ (timed arcs : List Arc) (same : Keyed timed arcs) where
  -- A walk has the key of its pair ..
  pub keyed_walk : {u t n : ℕ} (w : Walk timed u t n) → Alike arcs u t (key n (hops w)) (nodes_after w)
  unfolding hops nodes_after
  keyed_walk stay = (stay, refl)
  keyed_walk (go {t = t} {n = n} a i w) =
      let r = keyed_walk w in
      let e : key a.cost 1 + key n (hops w) ≡ key (a.cost + n) (suc (hops w)) = omega arith in
      subst (λ (k : ℕ). Alike arcs a.from t k (a.to ∷ nodes_after w)) e (go (keyed a) (same.there a i) r.0, ap (λ l. a.to ∷ l) r.1)

  -- .. and each key is the key of a walk's pair.
  pub timed_walk : {u t k : ℕ} (w : Walk arcs u t k) → Timed timed u t k (nodes_after w) (hops w)
  unfolding hops nodes_after
  timed_walk stay = record { seconds = 0; walk = stay; total = refl; along = refl; count = refl }
  timed_walk (go {t = t} {n = n} a i w) = let b = same.back a i in step b.0 b.1 b.2 (timed_walk w)
    where
      step : (b : Arc) → Mem b timed → a ≡ keyed b → Timed timed a.to t n (nodes_after w) (hops w)
          → Timed timed a.from t (a.cost + n) (a.to ∷ nodes_after w) (suc (hops w))
      step b j e = subst
          (λ (x : Arc). Timed timed x.to t n (nodes_after w) (hops w) → Timed timed x.from t (x.cost + n) (x.to ∷ nodes_after w) (suc (hops w))) (sym e)
          (λ r. record {
            seconds = b.cost + r.seconds;
            walk = go b j r.walk;
            total = omega (arith, r.total);
            along = ap (λ l. b.to ∷ l) r.along;
            count = ap suc r.count;
          })

  module _ (N : ℕ) (few : N ≤ hop_base) (within : Within N arcs) (u t : ℕ) (u_in : u < N) where
    within_timed : Within N timed
    within_timed a i = within (keyed a) (same.there a i)

    -- Each walk has a walk of fewer than N arcs that has neither more seconds nor more hops.
    record Fewer (m g : ℕ) : Type 0 where
      seconds : ℕ
      walk : Walk timed u t seconds
      sooner : seconds ≤ m
      less : hops walk ≤ g
      below : hops walk < N

    fewer : {m : ℕ} (w : Walk timed u t m) → Fewer m (hops w)
    fewer {m} w = step (dec_le N (hops w)) (shorten N within_timed u_in w)
      where
        step : Dec (N ≤ hops w) → Short timed N u t m → Fewer m (hops w)
        step (no h) s = record { seconds = m; walk = w; sooner = omega arith; less = omega arith; below = omega arith }
        step (yes h) s = record { seconds = s.total; walk = s.walk; sooner = s.less; less = omega (arith, s.few); below = s.few }

    -- What is no more than the pair of each walk of fewer than N arcs is no more than the pair of any walk.
    no_more : (p : Pair) → p.hops < N → ((m : ℕ) (w : Walk timed u t m) → key_of p ≤ key m (hops w)) → (q : Pair) → PairWalk timed u t q → NoMore p q
    unfolding NoMore
    no_more p below h q v = let f = fewer v.walk in step (dec_le q.seconds p.seconds) f (h f.seconds f.walk)
      where
        step : Dec (q.seconds ≤ p.seconds) → (f : Fewer q.seconds (hops v.walk)) → key_of p ≤ key f.seconds (hops f.walk)
            → (p.seconds < q.seconds) ⊎ ((p.seconds ≡ q.seconds) × (p.hops ≤ q.hops))
        step (no l) f c = inl (omega arith)
        step (yes l) f c = inr (omega (arith, few, f.sooner, f.below), omega (arith, few, f.sooner, f.below, f.less, v.its_hops))

    -- The least total by keys is the least pair of all walks ..
    pub pair_of_least : {k : ℕ} → Least arcs u t k → LeastPair timed u t (pair_of k) × (hops_of k < N)
    pair_of_least {k} l = found (shorten N within u_in l.has)
      where
        found : Short arcs N u t k → LeastPair timed u t (pair_of k) × (hops_of k < N)
        found s =
            let r = timed_walk s.walk in
            let e : k ≡ s.total = omega (arith, l.least s.total s.walk, s.less) in
            let below : hops r.walk < N = omega (arith, r.count, s.few) in
            let a : r.seconds ≡ seconds_of k = omega (arith, few, r.total, e, below) in
            let b : hops r.walk ≡ hops_of k = omega (arith, few, r.total, e, below) in
            let p : Pair = record { seconds = r.seconds; hops = hops r.walk } in
            let is : key_of p ≡ k = sym (e ∙ r.total) in
            let whole : LeastPair timed u t p = record {
              has = record { walk = r.walk; its_hops = refl };
              least = no_more p below (λ m w. omega (arith, is, l.least (key m (hops w)) (keyed_walk w).0));
            } in
            let q : p ≡ pair_of k = λ i. record { seconds = a i; hops = b i } in
            (subst (λ (x : Pair). LeastPair timed u t x) q whole, omega (arith, b, below))

    -- .. which has fewer hops than there are nodes (the least pair is the least total by keys: proofs/KeyLaws).
    pub few_hops : {p : Pair} → LeastPair timed u t p → p.hops < N
    unfolding NoMore
    few_hops {p} l = let s = shorten N within_timed u_in l.has.walk in step s
        (l.least (record { seconds = s.total; hops = hops s.walk }) (record { walk = s.walk; its_hops = refl }))
      where
        step : (s : Short timed N u t p.seconds) → (p.seconds < s.total) ⊎ ((p.seconds ≡ s.total) × (p.hops ≤ hops s.walk)) → p.hops < N
        step s (inl h) = omega (arith, s.less)
        step s (inr h) = omega (arith, h.1, s.few)

    -- There is no walk in the one reading just where there is none in the other.
    pub decoded_no_walk : ((n : ℕ) → Walk arcs u t n → ⊥) ↔ ((p : Pair) → PairWalk timed u t p → ⊥)
    decoded_no_walk = (
      λ h p v. h (key p.seconds (hops v.walk)) (keyed_walk v.walk).0,
      λ h n w. let r = timed_walk w in h (record { seconds = r.seconds; hops = hops r.walk }) (record { walk = r.walk; its_hops = refl }),
    )
