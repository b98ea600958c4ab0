-- Two positions change their nodes: every node still stands at one position, once. Assumes nothing.
use Prim.Native.Nat.{ℕ, ◌+◌, ◌≤◌, ◌<◌}
use native.Mathlib.Decide.{ℕ_discrete}
use native.Mathlib.Omega.{arith}
use mathlib.Core.Path.{◌≡◌, refl, sym, ap, ◌∙◌}
use mathlib.Core.Logic.{◌≢◌}
use mathlib.Core.List.{List}
use lib.ListN.{length}
use Rattle.words.specs.Regions.{times_in}
use Rattle.words.specs.Times.{time}
use Rattle.words.proofs.TimeLaws.{time_same}
use Rattle.heap.specs.Words.{Positioned, node, position, key, put_node, put_position, swapped}
use Rattle.heap.specs.Sifts.{Rearranged}
use Rattle.heap.proofs.OrderLaws.{Exchanged}
use Rattle.heap.proofs.WordLaws.{node_here, node_apart, put_positions, put_node_times, put_node_size, position_here, position_apart, put_nodes}
use Rattle.heap.proofs.WordLaws.{put_position_times, put_position_size}

-- What an exchange says of the nodes and the times.
pub record Swapped (n i j : ℕ) (w w' : List ℕ) : Type 0 where
  pub positioned : Positioned n w'
  pub times : times_in n w' ≡ times_in n w
  pub first : node n w' i ≡ node n w j
  pub second : node n w' j ≡ node n w i
  pub others : (m : ℕ) → m < n → m ≢ i → m ≢ j → node n w' m ≡ node n w m

module _ (n i j : ℕ) (w : List ℕ) (p : Positioned n w) (i_in : i < n) (j_in : j < n) where
  abbrev a : ℕ
  a = node n w i

  abbrev b : ℕ
  b = node n w j

  abbrev w₁ : List ℕ
  w₁ = put_node n i b w

  abbrev w₂ : List ℕ
  w₂ = put_node n j a w₁

  abbrev w₃ : List ℕ
  w₃ = put_position n a j w₂

  abbrev w' : List ℕ
  w' = swapped n i j w

  a_in : node n w i < n
  a_in = p.nodes i i_in

  b_in : node n w j < n
  b_in = p.nodes j j_in

  in₀ : n + i < length w
  in₀ = omega (arith, p.size)

  size₁ : length w₁ ≡ length w
  size₁ = put_node_size n i w in₀ b

  in₁ : n + j < length w₁
  in₁ = omega (arith, p.size, size₁)

  size₂ : length w₂ ≡ length w
  size₂ = put_node_size n j w₁ in₁ a ∙ size₁

  in₂ : n + a < length w₂
  in₂ = omega (arith, p.size, size₂, a_in)

  size₃ : length w₃ ≡ length w
  size₃ = put_position_size n a w₂ in₂ j ∙ size₂

  in₃ : n + b < length w₃
  in₃ = omega (arith, p.size, size₃, b_in)

  swap_size : length w' ≡ length w
  unfolding swapped
  swap_size = put_position_size n b w₃ in₃ i ∙ size₃

  swap_times : times_in n w' ≡ times_in n w
  unfolding swapped
  swap_times = put_position_times n b w₃ in₃ i b_in ∙ put_position_times n a w₂ in₂ j a_in ∙ put_node_times n j w₁ in₁ a j_in ∙ put_node_times n i w in₀ b i_in

  -- Writing positions leaves the nodes.
  node_part : (m : ℕ) → node n w' m ≡ node n w₂ m
  unfolding swapped
  node_part m = put_nodes n b w₃ in₃ i m ∙ put_nodes n a w₂ in₂ j m

  node_second : node n w' j ≡ node n w i
  node_second = node_part j ∙ node_here n j w₁ in₁ a (omega (arith, a_in, p.few))

  node_first : node n w' i ≡ node n w j
  node_first = pick (ℕ_discrete i j)
    where
      pick : Dec (i ≡ j) → node n w' i ≡ node n w j
      pick (yes e) = ap (node n w') e ∙ node_second ∙ ap (node n w) e
      pick (no m) = node_part i ∙ node_apart n j w₁ in₁ a i m ∙ node_here n i w in₀ b (omega (arith, b_in, p.few))

  node_others : (m : ℕ) → m < n → m ≢ i → m ≢ j → node n w' m ≡ node n w m
  node_others m h ni nj = node_part m ∙ node_apart n j w₁ in₁ a m nj ∙ node_apart n i w in₀ b m ni

  -- Writing nodes leaves the positions.
  position_part : (v : ℕ) → position n w₂ v ≡ position n w v
  position_part v = put_positions n j w₁ in₁ a (omega (arith, a_in, p.few)) v ∙ put_positions n i w in₀ b (omega (arith, b_in, p.few)) v

  position_second : position n w' b ≡ i
  unfolding swapped
  position_second = position_here n b w₃ in₃ i

  position_first : position n w' a ≡ j
  unfolding swapped
  position_first = pick (ℕ_discrete a b)
    where
      pick : Dec (a ≡ b) → position n w' a ≡ j
      pick (yes e) = ap (position n w') e ∙ position_second ∙ sym (p.back i i_in) ∙ ap (position n w) e ∙ p.back j j_in
      pick (no m) = position_apart n b w₃ in₃ i a m ∙ position_here n a w₂ in₂ j

  position_others : (v : ℕ) → v ≢ a → v ≢ b → position n w' v ≡ position n w v
  unfolding swapped
  position_others v na nb = position_apart n b w₃ in₃ i v nb ∙ position_apart n a w₂ in₂ j v na ∙ position_part v

  swap_nodes : (m : ℕ) → m < n → node n w' m < n
  swap_nodes m h = pick (ℕ_discrete m i) (ℕ_discrete m j)
    where
      pick : Dec (m ≡ i) → Dec (m ≡ j) → node n w' m < n
      pick (yes e) s = omega (arith, ap (node n w') e, node_first, b_in)
      pick (no e) (yes f) = omega (arith, ap (node n w') f, node_second, a_in)
      pick (no e) (no f) = omega (arith, node_others m h e f, p.nodes m h)

  swap_positions : (v : ℕ) → v < n → position n w' v < n
  swap_positions v h = pick (ℕ_discrete v (node n w i)) (ℕ_discrete v (node n w j))
    where
      pick : Dec (v ≡ node n w i) → Dec (v ≡ node n w j) → position n w' v < n
      pick (yes e) s = omega (arith, ap (position n w') e, position_first)
      pick (no e) (yes f) = omega (arith, ap (position n w') f, position_second)
      pick (no e) (no f) = omega (arith, position_others v e f, p.positions v h)

  swap_back : (m : ℕ) → m < n → position n w' (node n w' m) ≡ m
  swap_back m h = pick (ℕ_discrete m i) (ℕ_discrete m j)
    where
      pick : Dec (m ≡ i) → Dec (m ≡ j) → position n w' (node n w' m) ≡ m
      pick (yes e) s = ap (position n w') (ap (node n w') e ∙ node_first) ∙ position_second ∙ sym e
      pick (no e) (yes f) = ap (position n w') (ap (node n w') f ∙ node_second) ∙ position_first ∙ sym f
      pick (no e) (no f) =
          ap (position n w') (node_others m h e f)
          ∙ position_others (node n w m)
          (λ q. e (sym (p.back m h) ∙ ap (position n w) q ∙ p.back i i_in))
          (λ q. f (sym (p.back m h) ∙ ap (position n w) q ∙ p.back j j_in))
          ∙ p.back m h

  swap_there : (v : ℕ) → v < n → node n w' (position n w' v) ≡ v
  swap_there v h = pick (ℕ_discrete v (node n w i)) (ℕ_discrete v (node n w j))
    where
      pick : Dec (v ≡ node n w i) → Dec (v ≡ node n w j) → node n w' (position n w' v) ≡ v
      pick (yes e) s = ap (node n w') (ap (position n w') e ∙ position_first) ∙ node_second ∙ sym e
      pick (no e) (yes f) = ap (node n w') (ap (position n w') f ∙ position_second) ∙ node_first ∙ sym f
      pick (no e) (no f) =
          ap (node n w') (position_others v e f)
          ∙ node_others (position n w v) (p.positions v h)
          (λ q. e (sym (p.there v h) ∙ ap (node n w) q))
          (λ q. f (sym (p.there v h) ∙ ap (node n w) q))
          ∙ p.there v h

  pub swap_is : Swapped n i j w (swapped n i j w)
  swap_is = record {
    positioned = record { size = swap_size ∙ p.size; few = p.few; nodes = swap_nodes; positions = swap_positions; back = swap_back; there = swap_there };
    times = swap_times;
    first = node_first;
    second = node_second;
    others = node_others;
  }

pub kept_refl : (n k : ℕ) (w : List ℕ) → Positioned n w → Rearranged n k w w
kept_refl n k w p = record { positioned = p; times = refl; beyond = λ m h l. refl }

pub kept_more : (n k k' : ℕ) (w w' : List ℕ) → k ≤ k' → Rearranged n k w w' → Rearranged n k' w w'
kept_more n k k' w w' h a = record { positioned = a.positioned; times = a.times; beyond = λ m i l. a.beyond m (omega arith) l }

pub kept_then : (n k : ℕ) (w w' w'' : List ℕ) → Rearranged n k w w' → Rearranged n k w' w'' → Rearranged n k w w''
kept_then n k w w' w'' a b = record { positioned = b.positioned; times = b.times ∙ a.times; beyond = λ m h l. b.beyond m h l ∙ a.beyond m h l }

module _ (n i j : ℕ) (w w' : List ℕ) (s : Swapped n i j w w') where
  pub swap_kept : (k : ℕ) → i < k → j < k → Rearranged n k w w'
  swap_kept k h l = record { positioned = s.positioned; times = s.times; beyond = λ m b c. s.others m c (λ e. omega arith) (λ e. omega arith) }

  key_of : (m : ℕ) → m < n → (m' : ℕ) → node n w' m ≡ node n w m' → key n w' m ≡ key n w m'
  key_of m h m' e = time_same n w w' s.times (node n w' m) (s.positioned.nodes m h) ∙ ap (time n w) e

  pub swap_keys : (k : ℕ) → k ≤ n → i < n → j < n → Exchanged k i j (key n w) (key n w')
  swap_keys k h i_in j_in = record {
    first = key_of i i_in j s.first;
    second = key_of j j_in i s.second;
    others = λ m l a b. key_of m (omega arith) m (s.others m (omega arith) a b);
  }

-- Where the nodes from position k on are the same, a node that stands there stood there before.
pub stood : (n k : ℕ) (w w' : List ℕ) → Positioned n w → Positioned n w' → ((m : ℕ) → k ≤ m → m < n → node n w' m ≡ node n w m)
    → (v : ℕ) → v < n → k ≤ position n w' v → position n w v ≡ position n w' v
stood n k w w' p p' beyond v i l =
    let b = p'.positions v i in
    let t : node n w (position n w' v) ≡ v = sym (beyond (position n w' v) l b) ∙ p'.there v i in
    sym (ap (position n w) t) ∙ p.back (position n w' v) b

-- And one that stands before them stood before them.
pub stood_before : (n k : ℕ) (w w' : List ℕ) → Positioned n w → Positioned n w' → ((m : ℕ) → k ≤ m → m < n → node n w' m ≡ node n w m)
    → (v : ℕ) → v < n → position n w' v < k → position n w v < k
stood_before n k w w' p p' beyond v i l =
    let r : ¬ (k ≤ position n w v) = λ g. omega (arith, stood n k w' w p' p (λ m a b. sym (beyond m a b)) v i g) in
    omega arith

-- For the code: the nodes that it has read, and the words after each of its four writes.
pub swap_read : (n i j : ℕ) (w : List ℕ) (a b : ℕ) → a ≡ node n w i → b ≡ node n w j → (w₁ w₂ w₃ w₄ : List ℕ)
    → w₁ ≡ put_node n i b w → w₂ ≡ put_node n j a w₁ → w₃ ≡ put_position n a j w₂ → w₄ ≡ put_position n b i w₃ → w₄ ≡ swapped n i j w
unfolding swapped
swap_read n i j w a b ea eb w₁ w₂ w₃ w₄ e₁ e₂ e₃ e₄ = rw (e₄, e₃, e₂, e₁, ea, eb)
