-- The parts of an oracle, joined. Assumes nothing.
use Prim.Native.Nat.{ℕ, ◌+◌, ◌*◌, ◌≤◌, ◌<◌}
use native.Mathlib.Omega.{arith}
use mathlib.Core.Path.{◌≡◌, ap}
use mathlib.Core.List.{List, ◌++◌}
use lib.ListN.{length, drop, length-append, length-drop}
use Rattle.model.specs.Lists.{concat_map, total}
use Rattle.model.specs.Bytes.{Bytes, bytes16, number_size}
use Rattle.model.specs.Contents.{entry_at, network_head, oracle_edition, oracle_entries, oracle_head}
use Rattle.model.specs.Network.{distance, max_nodes, node_count}
use Rattle.model.specs.Grid.{division_bytes}
use Rattle.model.specs.Oracle.{table_bytes, value_size}
use Rattle.model.specs.declared.Division.{Division}
use Rattle.index.specs.Index.{IndexedEdges}
use Rattle.grid.specs.declared.Grid.{Grid}
use Rattle.access.specs.Networks.{network_in}
use Rattle.access.specs.Pairs.{NotAlone}
use Rattle.emit.specs.Parts.{head_bytes, numbers_bytes}
use Rattle.emit.specs.PartLaws.{length_numbers, length_head}
use Rattle.emit.specs.Records.{Wrote}
use Rattle.words.specs.Regions.{region_at, transit}
use Rattle.passes.specs.Building.{transit_in, list_in, members_in}
use Rattle.passes.specs.BuildingLaws.{transit_few, table_words}
use Rattle.passes.specs.Stands.{whole}
use Rattle.passes.proofs.Taken.{transit_alone}
use Rattle.bodies.specs.Listed.{Based, Counts}
use Rattle.bodies.specs.Rows.{row_in}
use Rattle.bodies.proofs.CellLists.{based_still}
use Rattle.words.specs.Frames.{Enough, KeptFrom}
use Rattle.builder.specs.Plan.{network_end, grid_end, back_size, sizes_in, whole_size, front_bytes, back_bytes, Planned}
use Rattle.emit.proofs.Pieces.{wrote_then}

-- ---- the head, bodies 1 to 3 and body 4
module _ (f : Bytes) (dv : Division) (sizes : List ℕ) (long : network_head ≤ length f) where
  pub length_front : length sizes ≡ oracle_entries → length (front_bytes f dv sizes) ≡ grid_end (length f)
  unfolding front_bytes division_bytes bytes16 entry_at
  length_front seven =
      omega (
        arith,
        length-append (head_bytes oracle_edition sizes ++ drop network_head f) (division_bytes dv),
        length-append (head_bytes oracle_edition sizes) (drop network_head f),
        length_head oracle_edition sizes,
        length-drop network_head f,
      )

  pub front_ends : {old new : Bytes} {m : ℕ} → Wrote old oracle_head (drop network_head f) m new → m ≡ network_end (length f)
  front_ends w = omega (arith, w.ends, length-drop network_head f)

  pub front_written : {old mid last new : Bytes} {m end : ℕ} → Wrote old 0 (head_bytes oracle_edition sizes) oracle_head mid
      → Wrote mid oracle_head (drop network_head f) m last → Wrote last m (division_bytes dv) end new → grid_end (length f) ≤ length old
      → Wrote old 0 (front_bytes f dv sizes) end new
  unfolding front_bytes
  front_written p q r h = wrote_then (wrote_then p q (omega arith)) r (omega (arith, front_ends q))

-- ---- the table
table_is : (b e : Bytes) (grid : Grid) (n : ℕ) → n ≡ node_count b → (l : List ℕ) → l ≡ transit_in b e grid
    → concat_map (row_in e n l) l ≡ table_bytes (distance (network_in b e)) (transit_in b e grid)
unfolding row_in
table_is b e grid n size l q = table_words b e grid n size l q

-- ---- bodies 5 to 7
module _ (b e : Bytes) (grid : Grid) (n t a : ℕ) (w : List ℕ) (p : Planned b e grid n t a w) where
  pub transit_room : (at room : ℕ) → at + back_size t a ≤ room
      → (n ≤ max_nodes) × Enough n w × (at + number_size * length (members_in n transit w) ≤ room) × (1 ≤ n)
  transit_room at room h = (p.based.few, p.based.words, omega (arith, ap length p.based.transits, p.transits), p.based.some)

  transit_ends : {old new : Bytes} {at m : ℕ} → Wrote old at (numbers_bytes (members_in n transit w)) m new → m ≡ at + number_size * t
  transit_ends q = omega (arith, q.ends, length_numbers (members_in n transit w), ap length p.based.transits, p.transits)

  module _ (at m : ℕ) (old mid : Bytes) (q : Wrote old at (numbers_bytes (members_in n transit w)) m mid)
      (h : at + back_size t a ≤ length old) where
    pub access_room : length mid ≡ length old → a < 4294967296 → (Based b e grid n w × Counts b e grid n w)
        × ((a ≡ length (whole n (list_in b e grid))) × (a < 4294967296) × (m + a ≤ length mid))
    access_room k s = ((p.based, p.counts), (p.access, s, omega (arith, transit_ends q)))

    module _ (w' : List ℕ) (kept : length w' ≡ length w) (others : KeptFrom (region_at n transit) w w') (k : ℕ) (next : Bytes)
        (r : Wrote mid m (whole n (list_in b e grid)) k next) where
      after : Based b e grid n w'
      after = based_still b e grid n w w' p.based kept others

      pub table_room : length next ≡ length old
          → ((n ≤ max_nodes) × Enough n w' × (t ≡ length (members_in n transit w'))
          × (k + value_size * t * t ≤ length next) × (t ≤ max_nodes)) × (IndexedEdges e n w' × NotAlone n transit w')
      table_room l = (
        (
          after.few,
          after.words,
          rw after.transits p.transits,
          omega (arith, transit_ends q, r.ends, p.access),
          omega (arith, p.transits, p.based.few, transit_few b e grid n p.based.count),
        ),
        (after.roads, transit_alone b e grid n after.count after.on_ground transit w' after.transits),
      )

      pub back_written : {end : ℕ} {new : Bytes} → length mid ≡ length old
          → Wrote next k (concat_map (row_in e n (members_in n transit w')) (members_in n transit w')) end new
          → Wrote old at (back_bytes b e grid n) end new
      unfolding back_bytes
      back_written l s =
          wrote_then
          (wrote_then (rw p.based.transits at q) r (omega (arith, transit_ends q)))
          (rw (table_is b e grid n p.based.count _ after.transits) at s)
          (omega (arith, transit_ends q, r.ends, p.access))

-- ---- the whole
module _ (f b e : Bytes) (dv : Division) (t a : ℕ) (joined : network_head + length b + length e ≡ length f) where
  abbrev sizes : List ℕ
  sizes = sizes_in (length b) (length e) t a

  module _ (small : whole_size (length f) t a < 4294967296) where
    pub sizes_fit : total sizes < 4294967296
    unfolding sizes_in total whole_size
    sizes_fit = omega arith

    pub front_room : (given : List ℕ) → given ≡ sizes → (room : ℕ) → whole_size (length f) t a ≤ room
        → (network_head ≤ length f) × (grid_end (length f) ≤ room) × (entry_at oracle_entries + total given < 4294967296)
    unfolding sizes_in total whole_size entry_at
    front_room given s room h = (omega arith, omega arith, rw s (omega arith))

    pub back_room : (old mid : Bytes) (m : ℕ) (given : List ℕ) → given ≡ sizes → Wrote old 0 (front_bytes f dv given) m mid
        → whole_size (length f) t a ≤ length old → (m + back_size t a ≤ length old) × (a < 4294967296)
    unfolding sizes_in whole_size
    back_room old mid m given s q h =
        let l : network_head ≤ length f = omega arith in
        let ends : m ≡ grid_end (length f) = omega (arith, q.ends, length_front f dv given l (ap length s)) in
        (omega arith, omega arith)

    pub whole_written : (old mid new : Bytes) (m end : ℕ) (given : List ℕ) → given ≡ sizes → Wrote old 0 (front_bytes f dv given) m mid
        → whole_size (length f) t a ≤ length old
        → {back : Bytes} → Wrote mid m back end new
        → Wrote old 0 (front_bytes f dv sizes ++ back) end new
    whole_written old mid new m end given s q h r = rw s at (wrote_then q r (omega (arith, (back_room old mid m given s q h).0)))
