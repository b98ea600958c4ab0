-- What rests on the sum of keys, and on a least pair having few hops. Assumes nothing.
use Prim.Native.Nat.{ℕ, ◌+◌, ◌≤◌, ◌<◌}
use native.Mathlib.Omega.{arith}
use Rattle.std.specs.Prelude.{◌≡◌, ◌⊎◌, ◌↔◌, List}
use Rattle.std.proofs.Math.Path.{refl, ap, subst}
use Rattle.std.proofs.Common.{sym, ◌∙◌}
use Rattle.std.proofs.Math.Logic.{inl, inr}
use Rattle.model.specs.Pair.{Pair, NoMore, add, hop_base, key, pair_of, hops_of}
use Rattle.model.specs.Walk.{Arc, Walk, hops, LeastPair, Least}
use Rattle.theory.specs.Walks.{Within}
use Rattle.theory.specs.Keys.{key_of, key_of_pair, key_sum, Keyed, keyed_walk, timed_walk, few_hops}

-- "d(p, a) + d(a, q) = d(p, q)": in pairs and in keys.
pub key_equation : (i j k : ℕ) → hops_of i + hops_of j < hop_base → (i + j ≡ k) ↔ (add (pair_of i) (pair_of j) ≡ pair_of k)
key_equation i j k h =
    (λ e. sym (key_sum i j h) ∙ ap pair_of e, λ e. sym (key_of_pair (i + j)) ∙ (ap key_of (key_sum i j h ∙ e) ∙ key_of_pair k))

module _ (timed arcs : List Arc) (same : Keyed timed arcs) where
  module _ (N : ℕ) (few : N ≤ hop_base) (within : Within N arcs) (u t : ℕ) (u_in : u < N) where
    -- .. and the least pair is the least total by keys.
    pub least_of_pair : {p : Pair} → LeastPair timed u t p → Least arcs u t (key_of p)
    unfolding NoMore
    least_of_pair {p} l = record {
      has = subst (λ (h : ℕ). Walk arcs u t (key p.seconds h)) l.has.its_hops (keyed_walk timed arcs same l.has.walk).0;
      least = λ m w. let r = timed_walk timed arcs same w in step m r.seconds (hops r.walk) r.total
          (l.least (record { seconds = r.seconds; hops = hops r.walk }) (record { walk = r.walk; its_hops = refl }));
    }
      where
        step : (m n g : ℕ) → m ≡ key n g → (p.seconds < n) ⊎ ((p.seconds ≡ n) × (p.hops ≤ g)) → key_of p ≤ m
        step m n g e (inl h) = omega (arith, few, few_hops timed arcs same N few within u t u_in l)
        step m n g e (inr h) = omega (arith, h.0, h.1)
