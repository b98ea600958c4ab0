-- The lists of one cell after another, each at its place. Assumes nothing.
use Prim.Native.Nat.{ℕ, ◌+◌, ◌-◌, ◌*◌, ◌≤◌, ◌<◌}
use native.Mathlib.Decide.{dec_lt}
use native.Mathlib.Omega.{arith}
use mathlib.Core.Path.{◌≡◌, sym, ◌∙◌, ap}
use mathlib.Core.Bool.{true, false}
use mathlib.Core.List.{List}
use lib.ListN.{length, take, drop}
use lib.Seq.{length-take-le, take-append-le, take-take, drop_at}
use Rattle.model.specs.Bytes.{Bytes, cut, splice}
use Rattle.model.specs.Network.{max_nodes, distance}
use Rattle.model.specs.Oracle.{start_size, list_size, list_start}
use Rattle.theory.specs.ReadLaws.{length_list}
use Rattle.algorithms.specs.Rounds.{distance_words}
use Rattle.arcs.specs.Arcs.{arcs_in}
use Rattle.bitset.specs.Bits.{set_words}
use Rattle.bitset.specs.Members.{members_of}
use Rattle.index.specs.Index.{IndexedEdges}
use Rattle.grid.specs.declared.Grid.{Grid}
use Rattle.crossing.specs.Ground.{cells_in}
use Rattle.crossing.specs.Cells.{same_cell, first_of_cell, same_cell_law}
use Rattle.access.specs.Networks.{network_in}
use Rattle.words.specs.Regions.{region_at, region, own, transit, search_words}
use Rattle.emit.specs.Members.{Among}
use Rattle.emit.specs.Parts.{list_bytes_of}
use Rattle.theory.specs.Splices.{take_splice, drop_splice, length_splice}
use Rattle.passes.specs.Building.{access_of, transit_in, list_in, members_in}
use Rattle.passes.specs.BuildingLaws.{list_words, among, same_access}
use Rattle.passes.specs.Sought.{Sought}
use Rattle.passes.proofs.Seeking.{sought_later}
use Rattle.passes.specs.Covered.{seen_none, seen_all, seen_later, to_none, to_all, to_other, to_same}
use Rattle.passes.specs.Stands.{Stands, offset, whole, length_whole, offset_above, offset_within, offset_order, assembled, read_start}
use Rattle.words.specs.Frames.{Enough, KeptFrom}
use Rattle.bodies.specs.Listed.{Based, Begun, Listed, ListedTo}
use Rattle.words.proofs.Windows.{region_later}
use Rattle.words.proofs.Stays.{take_drop, kept_more}
use Rattle.index.proofs.Laid.{roads_from}

-- ---- bytes written over others, and what stands apart from them
module _ (old : Bytes) (p : ℕ) (new : Bytes) (h : p + length new ≤ length old) where
  take_before : (m : ℕ) → m ≤ p → take m (splice p new old) ≡ take m old
  take_before m l =
      sym (take-take m (p + length new) (splice p new old) (omega arith)) ∙
      (ap (take m) (take_splice old p new h) ∙
      (take-append-le m (take p old) new (omega (arith, length-take-le p old (omega arith))) ∙ take-take m p old l))

  drop_after : (a : ℕ) → p + length new ≤ a → KeptFrom a old (splice p new old)
  drop_after a l = let e : a ≡ p + length new + (a - (p + length new)) = omega arith in rw e (drop_splice old p new h (a - (p + length new)))

  cut_here : take (length new) (drop p (splice p new old)) ≡ new
  cut_here =
      take_drop p (length new) (splice p new old) ∙
      (ap (drop p) (take_splice old p new h) ∙ drop_at (take p old) new p (length-take-le p old (omega arith)))

-- ---- one list, at its place
module _ (n : ℕ) (list : ℕ → Bytes) (body : Bytes) (g : Begun n list body) (v : ℕ) (h : v < n) where
  start_at : list_start body v ≡ offset n list v
  start_at = read_start n list body g.starts g.small v h

  start_fits : start_size * v + start_size ≤ length body
  start_fits = omega (arith, g.size, length_whole n list)

  fits_at : offset n list v + length (list v) ≤ length body
  fits_at = omega (arith, g.size, offset_within n list v h)

  abbrev with_it : Bytes
  with_it = splice (offset n list v) (list v) body

  begun_still : Begun n list with_it
  begun_still = record {
    size = length_splice body (offset n list v) (list v) fits_at ∙ g.size;
    small = g.small;
    starts = take_before body (offset n list v) (list v) fits_at (start_size * n) (offset_above n list v) ∙ g.starts;
  }

  stands_here : Stands n list with_it v
  unfolding cut
  stands_here = cut_here body (offset n list v) (list v) fits_at

  stands_still : (w : ℕ) → w < n → (w ≡ v → ⊥) → Stands n list body w → Stands n list with_it w
  unfolding cut
  stands_still w l d p = pick (dec_lt w v)
    where
      pick : Dec (w < v) → take (length (list w)) (drop (offset n list w) with_it) ≡ list w
      pick (yes q) =
          take_drop (offset n list w) (length (list w)) with_it ∙
          (ap (drop (offset n list w)) (take_before body (offset n list v) (list v) fits_at (offset n list w + length (list w)) (offset_order n list w v q h)) ∙
          (sym (take_drop (offset n list w) (length (list w)) body) ∙ p))
      pick (no q) = ap (take (length (list w))) (drop_after body (offset n list v) (list v) fits_at (offset n list w)
          (offset_order n list v w (omega (arith, d)) l)) ∙ p

-- ---- the lists of a network
module _ (b e : Bytes) (grid : Grid) (n : ℕ) where
  pub length_its : (v : ℕ) → length (list_in b e grid v) ≡ list_size (length (access_of b e grid v))
  unfolding list_in
  length_its v = length_list (distance (network_in b e)) (transit_in b e grid) v (access_of b e grid v)

  -- The words go on to serve where the transit nodes stay.
  module _ (w w' : List ℕ) (based : Based b e grid n w) (k : length w' ≡ length w) where
    pub based_still : KeptFrom (region_at n transit) w w' → Based b e grid n w'
    based_still q = record {
      on_ground = based.on_ground;
      count = based.count;
      few = based.few;
      words = omega (arith, based.words, k);
      some = based.some;
      roads =
          roads_from e n w w' (region_at n transit) (omega arith) q based.roads;
      transits = ap (λ (l : List ℕ). members_of n (take (set_words n) l)) q ∙ based.transits;
    }

    pub based_later : KeptFrom (search_words n) w w' → Based b e grid n w'
    based_later q = based_still (kept_more (search_words n) (region_at n transit) w w' (omega arith) q)

  -- ---- the list of v, where the words are those for the cell of u
  module _ (w : List ℕ) (based : Based b e grid n w) (u v : ℕ) (u_in : u < n) (v_in : v < n) (os : members_in n own w ≡ access_of b e grid u) (body : Bytes)
      (l : ListedTo b e grid n u v body) where
    pub list_other : same_cell (cells_in grid b) u v ≡ false → ListedTo b e grid n u (v + 1) body
    list_other other = record { begun = l.begun; seen = to_other (cells_in grid b) (Stands n (list_in b e grid) body) n u v other l.seen }

    module _ (same : same_cell (cells_in grid b) u v ≡ true) where
      same_nodes : access_of b e grid u ≡ access_of b e grid v
      same_nodes = same_access b e grid u v ((same_cell_law (cells_in grid b) u v).0 same)

      its_size : length (list_in b e grid v) ≡ list_size (length (members_in n own w))
      its_size = length_its v ∙ rw (os, same_nodes)

      pub list_room : (left : ℕ) → Sought n left w
          → ((n ≤ max_nodes) × (v < n) × Enough n w × Among n (region n own w) (region n transit w) × Sought n left w)
          × (IndexedEdges e n w
          × ((start_size * v + start_size ≤ length body) × (list_start body v + list_size left ≤ length body)))
      list_room left s = (
        (based.few, v_in, based.words, among b e grid n based.count w u u_in based.transits os, s),
        (
          based.roads,
          (
            start_fits n (list_in b e grid) body l.begun v v_in,
            omega (
              arith,
              ap list_size s.count,
              its_size,
              start_at n (list_in b e grid) body l.begun v v_in,
              fits_at n (list_in b e grid) body l.begun
                  v v_in,
            ),
          ),
        ),
      )

      pub list_done : (new : Bytes) → new ≡ splice (list_start body v) (list_bytes_of (distance_words (arcs_in e) n v) (members_in n transit w) (members_in n own w))
          body
          → ListedTo b e grid n u (v + 1) new
      list_done new s =
          let list = list_in b e grid in
          let its : list_bytes_of (distance_words (arcs_in e) n v) (members_in n transit w) (members_in n own w) ≡ list v = list_words b e grid n based.count w
          v u based.transits same_nodes os in
          let is : new ≡ with_it n list body l.begun v v_in = s ∙ rw (start_at n list body l.begun v v_in, its) in
          rw is
          (record {
            begun = begun_still n list body l.begun v v_in;
            seen = to_same (cells_in grid b) (Stands n list body) (Stands n list (with_it n list body l.begun v v_in)) n u v l.seen
                (stands_here n list body l.begun v v_in) (stands_still n list body l.begun v v_in);
          })

  -- ---- cell by cell
  module _ (body : Bytes) where
    pub listed_first : Begun n (list_in b e grid) body → Listed b e grid n 0 body
    listed_first g = record { begun = g; seen = seen_none (cells_in grid b) (Stands n (list_in b e grid) body) n }

    module _ (u : ℕ) where
      pub cell_none : Listed b e grid n u body → ListedTo b e grid n u 0 body
      cell_none l = record { begun = l.begun; seen = to_none (cells_in grid b) (Stands n (list_in b e grid) body) n u l.seen }

      pub cell_all : (v : ℕ) → n ≤ v → ListedTo b e grid n u v body → Listed b e grid n (u + 1) body
      cell_all v h l = record { begun = l.begun; seen = to_all (cells_in grid b) (Stands n (list_in b e grid) body) n u v h l.seen }

      pub listed_later : first_of_cell (cells_in grid b) u ≡ false → Listed b e grid n u body → Listed b e grid n (u + 1) body
      listed_later later l = record { begun = l.begun; seen = seen_later (cells_in grid b) (Stands n (list_in b e grid) body) n u later l.seen }

      pub listed_all : n ≤ u → Listed b e grid n u body → body ≡ whole n (list_in b e grid)
      listed_all h l = assembled n (list_in b e grid) body l.begun.size l.begun.starts
          (seen_all (cells_in grid b) (Stands n (list_in b e grid) body) n u h l.seen)

-- ---- the words for the cell of u, while its lists are written
pub record Working (b e : Bytes) (grid : Grid) (n u left : ℕ) (w₀ w : List ℕ) : Type 0 where
  pub based : Based b e grid n w
  pub owns : members_in n own w ≡ access_of b e grid u
  pub sought : Sought n left w
  pub kept : length w ≡ length w₀
  pub others : KeptFrom (region_at n transit) w₀ w

pub working_next : (b e : Bytes) (grid : Grid) (n u left : ℕ) (w₀ w w' : List ℕ) → Working b e grid n u left w₀ w → length w' ≡ length w
    → KeptFrom (search_words n) w w'
    → Working b e grid n u left w₀ w'
working_next b e grid n u left w₀ w w' g k q =
    record {
      based = based_later b e grid n w w' g.based k q;
      owns = ap (members_of n) (region_later n own w w' (omega arith) q) ∙ g.owns;
      sought = sought_later n left w g.sought w' q;
      kept = k ∙ g.kept;
      others = kept_more (search_words n) (region_at n transit) w w' (omega arith) q ∙ g.others;
    }
