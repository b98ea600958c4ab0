-- The halves of the words, after one of them is written. Assumes nothing.
use Prim.Native.Nat.{ℕ, ◌+◌, ◌*◌, ◌/◌, ◌%◌, ◌<◌}
use native.Mathlib.Decide.{ℕ_discrete}
use native.Mathlib.Omega.{arith}
use mathlib.Core.Path.{◌≡◌, ap}
use mathlib.Core.Logic.{◌≢◌}
use mathlib.Core.List.{List}
use lib.ListN.{length, get_or, set, length-set}
use lib.Seq.{get_or-set_same, get_or-set_other}
use Rattle.words.specs.Regions.{times_in}
use Rattle.words.proofs.TimeLaws.{times_between}
use Rattle.heap.specs.Words.{half, node, position, put_node, put_position}

module _ (n i : ℕ) (w : List ℕ) (i_in : n + i < length w) where
  abbrev x : ℕ
  x = get_or w (n + i) 0

  -- ---- a node written at position i
  module _ (v : ℕ) (v_in : v < half) where
    pub node_here : node n (put_node n i v w) i ≡ v
    unfolding node put_node
    node_here = let e = get_or-set_same w (n + i) (x / half * half + v) 0 i_in in rw e (omega arith)

    pub put_positions : (u : ℕ) → position n (put_node n i v w) u ≡ position n w u
    unfolding position put_node
    put_positions u = pick (ℕ_discrete u i)
      where
        pick : Dec (u ≡ i) → get_or (set w (n + i) (x / half * half + v)) (n + u) 0 / half ≡ get_or w (n + u) 0 / half
        pick (no m) = rw (get_or-set_other w (n + i) (n + u) (x / half * half + v) 0 (λ e. m (omega arith)))
        pick (yes e) = rw (e, get_or-set_same w (n + i) (x / half * half + v) 0 i_in) (omega arith)

  pub node_apart : (v m : ℕ) → m ≢ i → node n (put_node n i v w) m ≡ node n w m
  unfolding node put_node
  node_apart v m ne = ap (λ (y : ℕ). y % half) (get_or-set_other w (n + i) (n + m) (x / half * half + v) 0 (λ e. ne (omega arith)))

  pub put_node_times : (v : ℕ) → i < n → times_in n (put_node n i v w) ≡ times_in n w
  unfolding put_node
  put_node_times v h = times_between n (n + i) (x / half * half + v) w (omega arith) (omega arith)

  pub put_node_size : (v : ℕ) → length (put_node n i v w) ≡ length w
  unfolding put_node
  put_node_size v = simp length-set

  -- ---- a position written for node i
  module _ (p : ℕ) where
    pub position_here : position n (put_position n i p w) i ≡ p
    unfolding position put_position
    position_here = let e = get_or-set_same w (n + i) (p * half + x % half) 0 i_in in rw e (omega arith)

    pub put_nodes : (m : ℕ) → node n (put_position n i p w) m ≡ node n w m
    unfolding node put_position
    put_nodes m = pick (ℕ_discrete m i)
      where
        pick : Dec (m ≡ i) → get_or (set w (n + i) (p * half + x % half)) (n + m) 0 % half ≡ get_or w (n + m) 0 % half
        pick (no d) = rw (get_or-set_other w (n + i) (n + m) (p * half + x % half) 0 (λ e. d (omega arith)))
        pick (yes e) = rw (e, get_or-set_same w (n + i) (p * half + x % half) 0 i_in) (omega arith)

    pub position_apart : (u : ℕ) → u ≢ i → position n (put_position n i p w) u ≡ position n w u
    unfolding position put_position
    position_apart u ne = ap (λ (y : ℕ). y / half) (get_or-set_other w (n + i) (n + u) (p * half + x % half) 0 (λ e. ne (omega arith)))

    pub put_position_times : i < n → times_in n (put_position n i p w) ≡ times_in n w
    unfolding put_position
    put_position_times h = times_between n (n + i) (p * half + x % half) w (omega arith) (omega arith)

    pub put_position_size : length (put_position n i p w) ≡ length w
    unfolding put_position
    put_position_size = simp length-set
