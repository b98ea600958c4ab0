-- A network with k seconds more on one road, as bytes. Assumes nothing.
use Rattle.std.specs.Prelude.{ℕ, ◌+◌, ◌-◌, ◌*◌, ◌≤◌, ◌<◌, ◌≡◌, ◌≢◌, ◌⊎◌, true, get_or, take}
use native.Mathlib.Omega.{arith}
use Rattle.std.proofs.Math.Nat.{add-zero}
use Rattle.std.proofs.Math.Decide.{ℕ_discrete, dec_le}
use Rattle.std.proofs.Common.{sym, ◌∙◌, get_or-drop}
use Rattle.std.proofs.Math.Path.{ap}
use Rattle.std.proofs.Math.Logic.{inl, inr}
use Rattle.std.proofs.Math.Bool.{false}
use mathlib.Core.List.{◌++◌, Memᴰ, append_assoc}
use Rattle.std.proofs.Math.ListN.{length, drop, length-append, get_or-append}
use Rattle.std.proofs.Math.Seq.{get_or-take, length-take-le, drop_at}
use Rattle.model.specs.Bytes.{Bytes, byte, word16, word32, bytes32, splice}
use Rattle.model.specs.Contents.{node_body, edge_body, closed_body, contents_broken, bodies_broken, network_edition, network_entries}
use Rattle.model.specs.Network.{Edge, edge, edges, edge_count, edge_size, node_count, max_seconds, edges_broken, edge_broken, some_edge_broken, closed_listed}
use Rattle.model.specs.Grid.{grid_broken}
use Rattle.model.specs.Rules.{accepted}
use Rattle.model.specs.declared.Division.{Division}
use Rattle.theory.specs.FileLaws.{word32_read, length_32}
use Rattle.theory.specs.ReadLaws.{word32_drop}
use Rattle.theory.specs.Splices.{length_splice, drop_splice}
use Rattle.theory.specs.Shape.{any_none}
use Rattle.theory.specs.NetworkFile.{network_of, its_nodes, its_edges, its_closed, its_contents, its_bodies}
use Rattle.theory.specs.Passed.{Sound, passed_all}
use Rattle.theory.specs.Sound.{Fine, fine_kept, edge_fine, edge_numbered, node_bytes, edge_bytes, closed_bytes}

-- Body 2 with k seconds more on road j: the four bytes of its seconds are written over.
unfoldable pub raised_body : Bytes → ℕ → ℕ → Bytes
raised_body b j k = splice (edge_size * j + 4) (bytes32 ((edge b j).seconds + k)) b

-- The file with this body 2.
unfoldable pub raised : Bytes → ℕ → ℕ → Bytes
raised f j k = network_of (node_body f) (raised_body (edge_body f) j k) (closed_body f)

-- ---- the edges
module _ (b : Bytes) (j k : ℕ) (is_road : j < edge_count b) where
  -- Where the seconds stand, and what is written there.
  abbrev at : ℕ
  at = edge_size * j + 4

  abbrev new : Bytes
  new = bytes32 ((edge b j).seconds + k)

  abbrev b' : Bytes
  b' = raised_body b j k

  fits : at + length new ≤ length b
  unfolding edge_count
  fits = omega (arith, is_road, length_32 ((edge b j).seconds + k))

  pub same_length : length b' ≡ length b
  unfolding raised_body
  same_length = length_splice b at new fits

  pub same_count : edge_count b' ≡ edge_count b
  unfolding edge_count
  same_count = rw same_length

  before : (i : ℕ) → i < at → byte b' i ≡ byte b i
  unfolding raised_body splice
  before i h =
      let l : length (take at b) ≡ at = length-take-le at b (omega (arith, fits)) in
      get_or-append (take at b ++ new) (drop (at + length new) b) 0 i (omega (arith, length-append (take at b) new, l)) ∙
      (get_or-append (take at b) new 0 i (omega (arith, l)) ∙ get_or-take at b i 0 h)

  rest_same : (n : ℕ) → drop (at + length new + n) b' ≡ drop (at + length new + n) b
  unfolding raised_body
  rest_same n = drop_splice b at new fits n

  behind : (i : ℕ) → at + 4 ≤ i → byte b' i ≡ byte b i
  behind i h =
      let n : ℕ = i - (at + length new) in
      let e : i ≡ at + length new + n + 0 = omega (arith, length_32 ((edge b j).seconds + k)) in
      rw e (sym (get_or-drop (at + length new + n) b' 0 0) ∙ (ap (λ (l : Bytes). get_or l 0 0) (rest_same n) ∙ get_or-drop (at + length new + n) b 0 0))

  -- What stands outside of those four bytes is as it was.
  Outside : ℕ → ℕ → Type 0
  Outside i size = (i + size ≤ at) ⊎ (at + 4 ≤ i)

  byte_same : (i : ℕ) → Outside i 1 → byte b' i ≡ byte b i
  unfolding Outside
  byte_same i (inl h) = before i (omega arith)
  byte_same i (inr h) = behind i h

  further : (i n m : ℕ) → Outside i (n + m) → Outside (i + n) m
  unfolding Outside
  further i n m (inl h) = inl (omega arith)
  further i n m (inr h) = inr (omega arith)

  nearer : (i n m : ℕ) → Outside i (n + m) → Outside i n
  unfolding Outside
  nearer i n m (inl h) = inl (omega arith)
  nearer i n m (inr h) = inr h

  word_same : (i : ℕ) → Outside i 2 → word16 b' i ≡ word16 b i
  unfolding word16
  word_same i h = rw (byte_same i (nearer i 1 1 h), byte_same (i + 1) (further i 1 1 h))

  long_same : (i : ℕ) → Outside i 4 → word32 b' i ≡ word32 b i
  unfolding word32
  long_same i h = rw (word_same i (nearer i 2 2 h), word_same (i + 2) (further i 2 2 h))

  pub first_same : (edge b' j).first ≡ (edge b j).first
  unfolding edge Outside
  first_same = word_same (edge_size * j) (inl (omega arith))

  pub second_same : (edge b' j).second ≡ (edge b j).second
  unfolding edge Outside
  second_same = word_same (edge_size * j + 2) (inl (omega arith))

  pub others_same : (i : ℕ) → i ≢ j → edge b' i ≡ edge b i
  unfolding edge Outside
  others_same i other =
      let p = word_same (edge_size * i) (rw add-zero at (apart 0 2 (omega arith))) in
      let q = word_same (edge_size * i + 2) (apart 2 2 (omega arith)) in
      let r = long_same (edge_size * i + 4) (apart 4 4 (omega arith)) in
      λ z. record { first = p z; second = q z; seconds = r z }
    where
      apart : (n size : ℕ) → n + size ≤ edge_size → Outside (edge_size * i + n) size
      apart n size h = step (dec_le i j)
        where
          step : Dec (i ≤ j) → (edge_size * i + n + size ≤ at) ⊎ (at + 4 ≤ edge_size * i + n)
          step (yes l) = inl (omega arith)
          step (no l) = inr (omega arith)

  -- From there on the body begins with the new seconds.
  from_there : drop at b' ≡ new ++ drop (at + length new) b
  unfolding raised_body splice
  from_there =
      ap (drop at) (append_assoc (take at b) new (drop (at + length new) b)) ∙
      drop_at (take at b) (new ++ drop (at + length new) b) at (length-take-le at b (omega (arith, fits)))

  pub seconds_risen : (edge b j).seconds + k < 4_294_967_296 → (edge b' j).seconds ≡ (edge b j).seconds + k
  unfolding edge
  seconds_risen h =
      let z : at ≡ at + 0 = omega arith in
      ap (word32 b') z ∙ (word32_drop b' at 0 ∙ (ap (λ (l : Bytes). word32 l 0) from_there ∙ word32_read ((edge b j).seconds + k) (drop (at + length new) b) h))

-- ---- the file
module _ (f : Bytes) (sound : Sound f) (j k : ℕ) (is_road : j < edge_count (edge_body f)) (limit : (edge (edge_body f) j).seconds + k ≤ max_seconds) where
  abbrev f' : Bytes
  f' = raised f j k

  abbrev roads : Bytes
  roads = raised_body (edge_body f) j k

  few_bytes : length (node_body f) + length roads + length (closed_body f) ≤ 1_000_000
  few_bytes = omega (arith, same_length (edge_body f) j k is_road, (node_bytes f sound).2, (edge_bytes f sound).1, closed_bytes f sound)

  pub node_body_law : node_body f' ≡ node_body f
  unfolding raised
  node_body_law = its_nodes (node_body f) roads (closed_body f) few_bytes

  pub edge_body_law : edge_body f' ≡ roads
  unfolding raised
  edge_body_law = its_edges (node_body f) roads (closed_body f) few_bytes

  closed_body_law : closed_body f' ≡ closed_body f
  unfolding raised
  closed_body_law = its_closed (node_body f) roads (closed_body f) few_bytes

  edges_fine : edges_broken (edge_body f') ≡ false
  unfolding edges_broken
  edges_fine = rw (edge_body_law, same_length (edge_body f) j k is_road, same_count (edge_body f) j k is_road) (unfold edges_broken in sound.edges_rule)

  each_fine : (i : ℕ) → i < edge_count (edge_body f) → Dec (i ≡ j) → Fine (node_count (node_body f)) (edge roads i)
  each_fine i h (no n) = rw (others_same (edge_body f) j k is_road i n) (edge_fine (node_count (node_body f)) (edge_body f) sound.some_edge i h)
  each_fine i h (yes p) =
      let was = edge_fine (node_count (node_body f)) (edge_body f) sound.some_edge j is_road in
      let first = first_same (edge_body f) j k is_road in
      let second = second_same (edge_body f) j k is_road in
      rw p (record {
        first_in = rw first was.first_in;
        second_in = rw second was.second_in;
        apart = λ q. was.apart (sym first ∙ (q ∙ second));
        at_most = rw (seconds_risen (edge_body f) j k is_road (omega (arith, limit))) limit;
      })

  some_fine : some_edge_broken (node_count (node_body f')) (edge_body f') ≡ false
  unfolding some_edge_broken
  some_fine = rw (node_body_law, edge_body_law) (any_none (edge_broken (node_count (node_body f))) (edges roads) fine)
    where
      fine : (e : Edge) → Memᴰ e (edges roads) → edge_broken (node_count (node_body f)) e ≡ false
      fine e m =
          let (i, h, q) = edge_numbered roads m in
          rw q (fine_kept (node_count (node_body f)) (edge roads i)
          (each_fine i (rw (same_count (edge_body f) j k is_road) at h) (ℕ_discrete i j)))

  sound_raised : Sound f'
  sound_raised = record {
    nodes_rule = rw node_body_law sound.nodes_rule;
    coordinates = rw node_body_law sound.coordinates;
    edges_rule = edges_fine;
    some_edge = some_fine;
    closed = rw (edge_body_law, closed_body_law, same_count (edge_body f) j k is_road) sound.closed;
  }

  contents_raised : contents_broken network_edition network_entries f' ≡ false
  unfolding raised
  contents_raised = its_contents (node_body f) roads (closed_body f) few_bytes

  bodies_raised : bodies_broken network_entries f' ≡ false
  unfolding raised
  bodies_raised = its_bodies (node_body f) roads (closed_body f) few_bytes

  pub accepted_raised : closed_listed (closed_body f) ≡ false → (dv : Division) → grid_broken dv.g ≡ false → accepted f' dv ≡ true
  accepted_raised plain dv grid =
      passed_all f' dv (record { contents = contents_raised; bodies = bodies_raised; sound = sound_raised; plain = rw closed_body_law plain; grid = grid })
