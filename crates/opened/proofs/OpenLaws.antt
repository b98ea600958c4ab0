-- How an oracle comes to be opened, and stays so. Assumes nothing.
use Prim.Native.Nat.{ℕ, ◌+◌, ◌-◌, ◌≤◌, ◌<◌}
use native.Mathlib.Nat.{add-zero}
use native.Mathlib.Omega.{arith}
use mathlib.Core.Path.{◌≡◌, sym, ap, ◌∙◌, subst}
use mathlib.Core.Bool.{true}
use mathlib.Core.List.{List}
use lib.ListN.{length, get_or, set, take, drop, replicate, length-set, length-replicate}
use lib.Seq.{get_or-take, get_or-drop, get_or-set_same}
use Rattle.model.specs.Bytes.{Bytes}
use Rattle.model.specs.Contents.{node_body, edge_body}
use Rattle.model.specs.Network.{max_nodes, node_count}
use Rattle.model.specs.Rules.{well_shaped, words_needed, work_words}
use Rattle.model.specs.Walk.{Arc}
use Rattle.model.specs.Distance.{dist}
use Rattle.model.specs.Oracle.{coded}
use Rattle.theory.specs.Passed.{all_shaped}
use Rattle.theory.specs.Sound.{node_bytes}
use Rattle.algorithms.specs.Stops.{Stopped, lacking, lacking_all, nonzeros_one}
use Rattle.bitset.specs.Bits.{set_words, flags}
use Rattle.words.specs.Regions.{region_at, region_flags, times_in, want, want_in, index_at, grid_at, grid_words, spans_at, span_count, search_words}
use Rattle.words.specs.Times.{time}
use Rattle.index.specs.Index.{IndexedEdges}
use Rattle.index.proofs.Laid.{roads_kept}
use Rattle.checks.specs.Grids.{oracle_grid}
use Rattle.checks.proofs.RulesKept.{some_node}
use Rattle.words.specs.Frames.{Only, OnlyIn, KeptFrom}
use Rattle.words.proofs.Stays.{kept_more}
use Rattle.words.proofs.Windows.{room_left, index_fits}
use Rattle.words.proofs.TimeLaws.{time_at}
use Rattle.opened.specs.Opened.{grid_in, Opened, Stays}

-- ---- the words of the grid
module _ (n : ℕ) (w w' : List ℕ) where
  same_grid : ((i : ℕ) → i < 4 → get_or w' (grid_at n + i) 0 ≡ get_or w (grid_at n + i) 0) → grid_in n w' ≡ grid_in n w
  same_grid same =
      let first : get_or w' (grid_at n) 0 ≡ get_or w (grid_at n) 0 = rw add-zero at (same 0 (omega arith)) in
      rw (first, same 1 (omega arith), same 2 (omega arith), same 3 (omega arith))

  pub grid_behind : KeptFrom (grid_at n) w w' → grid_in n w' ≡ grid_in n w
  grid_behind e = same_grid (λ i h. sym (get_or-drop (grid_at n) w' i 0) ∙ (ap (λ (l : List ℕ). get_or l i 0) e ∙ get_or-drop (grid_at n) w i 0))

  pub grid_before : (a : ℕ) → grid_at n + grid_words ≤ a → take a w' ≡ take a w → grid_in n w' ≡ grid_in n w
  grid_before a p e = same_grid (λ i h.
      sym (get_or-take a w' (grid_at n + i) 0 (omega arith)) ∙ (ap (λ (l : List ℕ). get_or l (grid_at n + i) 0) e ∙ get_or-take a w (grid_at n + i) 0 (omega arith)))

-- The index stands behind the grid.
roads_behind : (eb : Bytes) (n : ℕ) (w w' : List ℕ) → KeptFrom (grid_at n) w w' → IndexedEdges eb n w → IndexedEdges eb n w'
roads_behind eb n w w' e r = roads_kept eb n w w' (kept_more (grid_at n) (index_at n) w w' (omega arith) e) r

-- ---- an opened oracle
module _ (o : Bytes) where
  abbrev n : ℕ
  n = node_count (node_body o)

  -- The words before the grid may change.
  pub opened_kept : (w w' : List ℕ) → Opened o w → length w' ≡ length w → KeptFrom (grid_at n) w w' → Opened o w'
  opened_kept w w' h l e = record {
    shape = h.shape;
    room = omega (arith, h.room, l);
    grid = grid_behind n w w' e ∙ h.grid;
    roads = roads_behind (edge_body o) n w w' e h.roads;
  }

  pub others_rest : (w w' : List ℕ) → 0 < n → KeptFrom (grid_at n) w w' → KeptFrom (words_needed o) w w'
  unfolding words_needed
  others_rest w w' p e = kept_more (grid_at n) (work_words n) w w' (omega arith) e

  -- From w₀, by the numbers of the grid, to w₁, and by the index to w₂.
  module _ (w₀ w₁ w₂ : List ℕ) (p : 0 < n) (long : length w₂ ≡ length w₀) (g : grid_in n w₁ ≡ oracle_grid o) (before : take (index_at n) w₂ ≡ take (index_at n) w₁)
    where
      pub opened_made : well_shaped o ≡ true → words_needed o ≤ length w₀ → IndexedEdges (edge_body o) n w₂ → Opened o w₂
      opened_made shape room roads = record
          { shape = shape; room = omega (arith, room, long); grid = grid_before n w₁ w₂ (index_at n) (omega arith) before ∙ g; roads = roads }

  pub opened_rest : (w₀ w₁ w₂ : List ℕ) → 0 < n → KeptFrom (grid_at n + 4) w₀ w₁ → KeptFrom (work_words n) w₁ w₂ → KeptFrom (words_needed o) w₀ w₂
  unfolding words_needed
  opened_rest w₀ w₁ w₂ p d e = e ∙ kept_more (grid_at n + 4) (work_words n) w₀ w₁ (omega arith) d

-- The same, for the number of nodes and the bodies as the code has them.
module _ (o : Bytes) (m : ℕ) (e : m ≡ node_count (node_body o)) (eb : Bytes) (p : eb ≡ edge_body o) (w₀ w₁ w₂ : List ℕ) where
  pub words_opened : 0 < node_count (node_body o) → length w₂ ≡ length w₀ → well_shaped o ≡ true → words_needed o ≤ length w₀ → grid_in m w₁ ≡ oracle_grid o
      → KeptFrom (grid_at m + 4) w₀ w₁
      → IndexedEdges eb m w₂ → take (index_at m) w₂ ≡ take (index_at m) w₁ → KeptFrom (work_words m) w₁ w₂ → Opened o w₂ × (KeptFrom (words_needed o) w₀ w₂)
  words_opened some long shape room g d roads before back = (
    opened_made o w₀ w₁ w₂ some long (rw e at g) (rw e at before) shape room (rw (e, p) at roads),
    opened_rest o w₀ w₁ w₂ some (rw e at d) (rw e at back),
  )

-- ---- what stays of an opened oracle after an answer
pub stays : (o : Bytes) (w w' : List ℕ) → Opened o w → length w' ≡ length w
    → KeptFrom (grid_at (node_count (node_body o))) w w' → Stays o w w'
stays o w w' h l e = record { opened = opened_kept o w w' h l e; rest = others_rest o w w' (some_node o h.shape) e }

pub stays_then : (o : Bytes) (w₀ w₁ w₂ : List ℕ) → Stays o w₀ w₁ → Stays o w₁ w₂ → Stays o w₀ w₂
stays_then o w₀ w₁ w₂ p q = record { opened = q.opened; rest = q.rest ∙ p.rest }

-- The spans stand between the grid and the index.
join : (a b : ℕ) → a + 2 < b → a + (b - a) ≡ b
join a b h = omega arith

pub spans_end : (n : ℕ) → 2 ≤ n → spans_at n + span_count n ≡ index_at n
spans_end n two = join (spans_at n) (index_at n) (room_left n two).1

pub stays_noted : (o : Bytes) (w w' : List ℕ) → Opened o w → 2 ≤ node_count (node_body o) → length w' ≡ length w
    → OnlyIn (spans_at (node_count (node_body o))) (span_count (node_count (node_body o))) w w' → Stays o w w'
unfolding words_needed
stays_noted o w w' h two l k =
    let n = node_count (node_body o) in
    let e = spans_end n two in
    let back : KeptFrom (index_at n) w w' = subst (λ (i : ℕ). KeptFrom i w w') e k.back in
    record {
      opened = record {
        shape = h.shape;
        room = omega (arith, h.room, l);
        grid = grid_before n w w' (spans_at n) (omega arith) k.front ∙ h.grid;
        roads = roads_kept (edge_body o) n w w' back h.roads;
      };
      rest = kept_more (index_at n) (work_words n) w w' (omega (arith, index_fits n two)) back;
    }

-- ---- what a search asks for, of the bodies and the number of nodes as the code has them
pub record Lent (o eb : Bytes) (m : ℕ) (w : List ℕ) : Type 0 where
  pub few : m ≤ max_nodes
  pub below : (u : ℕ) → u < node_count (node_body o) → u < m
  pub room : work_words m ≤ length w
  pub roads : IndexedEdges eb m w

pub lent : (o : Bytes) (w : List ℕ) → Opened o w → (eb : Bytes) (m : ℕ) → eb ≡ edge_body o → m ≡ node_count (node_body o)
    → Lent o eb m w
unfolding words_needed
lent o w h eb m p e =
    let sound = (all_shaped o h.shape).sound in
    record {
      few = omega (arith, (node_bytes o sound).0, e);
      below = λ u l. omega (arith, e);
      room = omega (arith, h.room, e);
      roads = rw (e, p) h.roads;
    }

-- ---- one node wanted
pub lacking_one : (n t : ℕ) → lacking (set (replicate n 0) t 1) (replicate n 0) ≤ 1
lacking_one n t =
    omega (arith, lacking_all (set (replicate n 0) t 1) n (omega (arith, size)), nonzeros_one n t)
  where
    size : length (set (replicate {A = ℕ} n 0) t 1) ≡ n
    size = length-set (replicate {A = ℕ} n 0) t 1 ∙ length-replicate {A = ℕ} n 0

-- The wanted set of a search is region WANT.
at_want : (n : ℕ) → search_words n ≡ region_at n want
at_want n = omega arith

pub want_single : (n t : ℕ) (w₁ w₂ : List ℕ) → region_flags n want w₁ ≡ replicate n 0 → region_flags n want w₂ ≡ set (region_flags n want w₁) t 1
    → want_in n w₂ ≡ set (replicate n 0) t 1
unfolding want_in
want_single n t w₁ w₂ e q = ap (λ (a : ℕ). flags n (drop a w₂)) (at_want n) ∙ (q ∙ ap (λ (l : List ℕ). set l t 1) e)

pub want_others : (n : ℕ) (w₀ w₁ w₂ : List ℕ) → Only n want w₀ w₁ → Only n want w₁ w₂ → KeptFrom (grid_at n) w₀ w₂
want_others n w₀ w₁ w₂ p q =
    let e : region_at n want + set_words n ≡ grid_at n = omega arith in
    rw e at (q.back ∙ p.back)

-- The time of the one wanted node.
pub stopped_word : (arcs : List Arc) (n s t : ℕ) (w order : List ℕ) → t < n → Stopped arcs n s (set (replicate n 0) t 1) (times_in n w) order
    → time n w t ≡ coded (dist arcs n s t)
stopped_word arcs n s t w order h found =
    sym (time_at n w t h) ∙ found.wanted t h (omega (arith, get_or-set_same (replicate {A = ℕ} n 0) t 1 0 (omega (arith, length-replicate {A = ℕ} n 0))))
