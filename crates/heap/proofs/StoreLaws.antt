-- The queue when a time is written, or nodes change their positions. Assumes nothing.
use Prim.Native.Nat.{ℕ, ◌+◌, ◌/◌, ◌%◌, ◌≤◌, ◌<◌}
use native.Mathlib.Omega.{arith}
use mathlib.Core.Path.{◌≡◌, sym, ap, ◌∙◌}
use mathlib.Core.Logic.{◌≢◌}
use mathlib.Core.List.{List}
use lib.ListN.{length, set}
use Rattle.model.specs.Oracle.{no_walk}
use Rattle.words.specs.Regions.{times_in}
use Rattle.words.specs.Times.{time_words, time, store}
use Rattle.heap.specs.Words.{Positioned, half, node, position, key}
use Rattle.heap.specs.Order.{Ordered}
use Rattle.heap.specs.Sifts.{Rearranged}
use Rattle.heap.specs.Queue.{Queue}
use Rattle.words.proofs.TimeLaws.{time_same}
use Rattle.words.proofs.TimeLaws as times

pub queue_of : (n k e : ℕ) (w w' : List ℕ) → Rearranged n e w w' → Ordered k (key n w') → k ≤ e → e ≤ n
    → ((v : ℕ) → v < n → position n w' v < k → time n w v < no_walk)
    → ((v : ℕ) → v < n → k ≤ position n w' v → position n w' v < e → no_walk ≤ time n w v) → Queue n k e w'
queue_of n k e w w' q o h l f g = record {
  positioned = q.positioned;
  order = o;
  held = h;
  room = l;
  reached = λ v i p. omega (arith, time_same n w w' q.times v i, f v i p);
  unreached = λ v i p r. omega (arith, time_same n w w' q.times v i, g v i p r);
}

-- ---- the store of a time
module _ (n v x : ℕ) (w : List ℕ) (p : Positioned n w) (v_in : v < n) where
  abbrev w₁ : List ℕ
  w₁ = store n v x w

  long : time_words n ≤ length w
  long = omega (arith, p.size)

  pub store_node : (i : ℕ) → i < n → node n w₁ i ≡ node n w i
  unfolding node
  store_node i h = ap (λ (y : ℕ). y % half) (times.store_between n v x w v_in (n + i) (omega arith) (omega arith))

  pub store_position : (u : ℕ) → u < n → position n w₁ u ≡ position n w u
  unfolding position
  store_position u h = ap (λ (y : ℕ). y / half) (times.store_between n v x w v_in (n + u) (omega arith) (omega arith))

  pub store_same : time n w₁ v ≡ x
  store_same = times.store_same n v x w v_in long

  pub store_other : (u : ℕ) → u < n → u ≢ v → time n w₁ u ≡ time n w u
  store_other = times.store_other n v x w v_in long

  pub store_positioned : Positioned n w₁
  store_positioned = record {
    size = times.store_length n v x w v_in ∙ p.size;
    few = p.few;
    nodes = λ i h. omega (arith, store_node i h, p.nodes i h);
    positions = λ u h. omega (arith, store_position u h, p.positions u h);
    back = λ i h. ap (position n w₁) (store_node i h) ∙ store_position (node n w i) (p.nodes i h) ∙ p.back i h;
    there = λ u h. ap (node n w₁) (store_position u h) ∙ store_node (position n w u) (p.positions u h) ∙ p.there u h;
  }

  -- the key of any other position
  pub store_key : (m : ℕ) → m < n → m ≢ position n w v → key n w₁ m ≡ key n w m
  store_key m h ne = ap (time n w₁) (store_node m h) ∙ store_other (node n w m) (p.nodes m h) (λ e. ne (sym (p.back m h) ∙ ap (position n w) e))

  pub store_key_here : key n w₁ (position n w v) ≡ x
  store_key_here = ap (time n w₁) (store_node (position n w v) (p.positions v v_in) ∙ p.there v v_in) ∙ store_same

  pub store_times : times_in n w₁ ≡ set (times_in n w) v x
  store_times = times.store_times n v x w v_in long
