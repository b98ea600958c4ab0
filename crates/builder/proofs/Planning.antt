-- What the transit nodes and the counts say before any output is written. Assumes nothing.
use Prim.Native.Nat.{ℕ, ◌+◌, ◌*◌, ◌≤◌}
use native.Mathlib.Omega.{arith}
use mathlib.Core.Path.{◌≡◌, ◌∙◌}
use mathlib.Core.List.{List}
use Rattle.model.specs.Lists.{total}
use Rattle.model.specs.Bytes.{Bytes}
use Rattle.model.specs.Network.{max_nodes, node_count}
use Rattle.model.specs.declared.Division.{Division}
use Rattle.model.specs.Oracle.{start_size}
use Rattle.theory.specs.Sound.{node_bytes}
use Rattle.index.specs.Index.{IndexedEdges}
use Rattle.grid.specs.declared.Grid.{Grid}
use Rattle.grid.proofs.Cells.{over_made}
use Rattle.crossing.specs.Ground.{Ground}
use Rattle.crossing.specs.Sets.{ones}
use Rattle.words.specs.Regions.{region_at, counts_in, region_flags, transit}
use Rattle.emit.specs.Parts.{Counted, list_sizes}
use Rattle.passes.specs.Building.{transit_in, list_in, members_in}
use Rattle.passes.specs.Stands.{length_whole}
use Rattle.passes.proofs.Listing.{count_members}
use Rattle.bodies.specs.Listed.{Based, Counts}
use Rattle.bodies.proofs.CellLists.{length_its}
use Rattle.bodies.proofs.Starting.{count_is, counted_all}
use Rattle.model.specs.Rules.{work_words}
use Rattle.words.specs.Frames.{Enough, KeptFrom}
use Rattle.builder.specs.Plan.{Planned}
use Rattle.builder.specs.Laid.{Laid}
use Rattle.builder.proofs.Sums.{length_lists}
use Rattle.words.proofs.Stays.{kept_more}

module _ (f : Bytes) (dv : Division) (b e : Bytes) (grid : Grid) (n : ℕ) (l : Laid f dv b e grid n) where
  laid_ground : Ground b e grid
  laid_ground =
      let s = l.passed.sound in
      record {
        over = over_made grid b dv l.made (rw l.of_nodes s.nodes_rule) (rw l.of_nodes s.coordinates) l.passed.grid;
        edges_rule = rw (l.of_nodes, l.of_edges) s.some_edge;
      }

  pub laid_some : 1 ≤ n
  laid_some = rw (l.count, l.of_nodes) (node_bytes f l.passed.sound).1

  -- The words of the regions are among the first 8 n.
  pub behind_regions : (w w' : List ℕ) → KeptFrom (region_at n transit) w w' → KeptFrom (work_words n) w w'
  behind_regions w w' d = kept_more (region_at n transit) (work_words n) w w' (omega (arith, laid_some)) d

  laid_few : n ≤ max_nodes
  laid_few = rw (l.count, l.of_nodes) (node_bytes f l.passed.sound).0

  module _ (w : List ℕ) (words : Enough n w) where
    pub pass_requires : Ground b e grid × (n ≡ node_count b) × (n ≤ max_nodes) × Enough n w × (1 ≤ n)
    pass_requires = (laid_ground, l.count, laid_few, words, laid_some)

    module _ (members : members_in n transit w ≡ transit_in b e grid) (all : Counts b e grid n w) (roads : IndexedEdges e n w) where
      based_first : Based b e grid n w
      based_first = record { on_ground = laid_ground; count = l.count; few = laid_few; words = words; some = laid_some; transits = members; roads = roads }

      pub sizes_requires : Enough n w × Counted n (counts_in n w) × (1 ≤ n)
      sizes_requires = (words, counted_all b e grid n w based_first all, laid_some)

      pub planned : (t a : ℕ) → t ≡ ones (region_flags n transit w) → a ≡ start_size * n + total (list_sizes n (counts_in n w)) → Planned b e grid n t a w
      planned t a p q =
          let list = list_in b e grid in
          record {
            based = based_first;
            counts = all;
            transits = p ∙ (count_members n transit w ∙ rw members);
            access = q ∙ omega (
              arith,
              length_whole n list,
              length_lists list n (counts_in n w)
                  (λ v h. length_its b e grid n v ∙ rw (count_is b e grid n w based_first all v h)),
            );
          }
