-- How the index is read: by links just where the blocks have one edge. Assumes nothing.
use Prim.Native.Nat.{ℕ, ◌<◌}
use mathlib.Core.Path.{◌≡◌, refl, sym, ap, ◌∙◌}
use mathlib.Core.Bool.{Bool, true, false, true≢false}
use mathlib.Core.List.{List}
use Rattle.model.specs.Bytes.{Bytes}
use Rattle.model.specs.Network.{edge_count}
use Rattle.words.specs.Regions.{index_in}
use Rattle.index.specs.Index.{Reading, by_links, by_blocks, linked, reading, read_in, IndexedEdges}

module _ (edges : Bytes) (n : ℕ) (w : List ℕ) where
  pub read_links : linked n (edge_count edges) ≡ true → read_in edges n w ≡ by_links n (index_in n w)
  unfolding reading
  read_links e = rw e

  pub read_blocks : linked n (edge_count edges) ≡ false → read_in edges n w ≡ by_blocks (index_in n w)
  unfolding reading
  read_blocks e = rw e

  module _ (roads : IndexedEdges edges n w) (u : ℕ) (u_in : u < n) where
    pub of_one : (read_in edges n w).size u ≡ 1 → linked n (edge_count edges) ≡ true
    of_one e = roads.indexed.one (sym (roads.indexed.chained.sized u u_in) ∙ e)

    pub of_several : ((read_in edges n w).size u ≡ 1 → ⊥) → linked n (edge_count edges) ≡ false
    of_several d = pick (linked n (edge_count edges)) refl
      where
        pick : (b : Bool) → linked n (edge_count edges) ≡ b → b ≡ false
        pick true e = absurd (d (ap (λ (r : Reading). r.size u) (read_links e)))
        pick false e = refl

    pub not-one : linked n (edge_count edges) ≡ false → (read_in edges n w).size u ≡ 1 → ⊥
    not-one e f = true≢false (sym (of_one f) ∙ e)
