-- The gathered nodes of a cell, and its access nodes among them. Assumes nothing.
use Prim.Native.Nat.{ℕ, ◌<◌}
use native.Mathlib.Omega.{arith}
use mathlib.Core.Path.{◌≡◌, refl, sym, ◌∙◌}
use mathlib.Core.Logic.{◌↔◌}
use mathlib.Core.Bool.{true}
use mathlib.Core.List.{List, Memᴰ}
use lib.ListN.{drop}
use Rattle.model.specs.Lists.{member}
use Rattle.model.specs.Bytes.{Bytes}
use Rattle.model.specs.Network.{Edge, Network, node_count, order, arcs, distance}
use Rattle.model.specs.Grid as model
use Rattle.model.specs.Access.{crossings, between, access_nodes}
use Rattle.theory.specs.Members.{any→, →any}
use Rattle.theory.specs.Members as lists
use Rattle.theory.specs.Sound.{each_fine}
use Rattle.theory.specs.AccessLaws.{between_walks, crossing_node}
use Rattle.bitset.specs.Bits.{flags}
use Rattle.arcs.specs.Arcs.{arcs_in}
use Rattle.index.specs.Index.{IndexedEdges}
use Rattle.grid.specs.Stored.{grid_of}
use Rattle.grid.specs.declared.Grid.{Grid}
use Rattle.crossing.specs.Sets.{test_flags, member_flags, both}
use Rattle.crossing.specs.SetLaws.{flags_test, test_flags_same}
use Rattle.crossing.specs.Ground.{cells_in, Ground}
use Rattle.crossing.specs.AccessFlags.{toward, through, access_flags}
use Rattle.marks.specs.Due.{Flagged}
use Rattle.words.specs.Regions.{region_at, region_flags, want, own, gathered, transit}
use Rattle.access.specs.Gathered.{Gathered, KeptStarts}
use Rattle.access.specs.Networks.{network_in, count_order, count_cells}
use Rattle.access.specs.Pairs.{NotAlone, crossing_two}
use Rattle.words.proofs.Windows.{flags_kept}
use Rattle.access.proofs.Flagging.{flagged→, →flagged, member→, →member}
use Rattle.theory.specs.Tests.{same_test}
use Rattle.words.specs.Frames.{Only, KeptFrom}
use Rattle.words.proofs.Stays.{after_kept}
use Rattle.index.proofs.Laid.{roads_only}

-- The index stays where the starts are put into x, and the goals into y.
pub roads_crossed : (edges : Bytes) (n : ℕ) (w x y : List ℕ) → Only n own w x → Only n want x y → IndexedEdges edges n w
    → IndexedEdges edges n y
roads_crossed edges n w x y o q r = roads_only edges n x y _ _ (omega arith) q (roads_only edges n w x _ _ (omega arith) o r)

-- ---- which nodes are flagged as members
module _ (n : ℕ) (l : List ℕ) (v : ℕ) where
  listed→ : Flagged (member_flags n l) v → (v < n) × Memᴰ v l
  unfolding member_flags
  listed→ f = let t = flagged→ (λ u. member u l) n v f in (t.0, lists.member→ v l t.1)

  →listed : v < n → Memᴰ v l → Flagged (member_flags n l) v
  unfolding member_flags
  →listed h m = →flagged (λ u. member u l) n v h (lists.→member v l m)

module _ (b e : Bytes) (grid : Grid) (on_ground : Ground b e grid) (n : ℕ) (size : n ≡ node_count b) where
  abbrev net : Network
  net = network_in b e

  abbrev cs : List model.Cell
  cs = cells_in grid b

  count : order net ≡ n
  count = count_order b n size e

  ends : (x : Edge) → Memᴰ x net.edges → (x.first < order net) × (x.second < order net)
  ends x m = let f = each_fine (node_count b) e on_ground.edges_rule x m in
      (omega (arith, f.first_in, count, size), omega (arith, f.second_in, count, size))

  same_arcs : arcs net ≡ arcs_in e
  unfolding arcs arcs_in
  same_arcs = refl

  module _ (cell : model.Cell) where
    abbrev ps : List ℕ
    ps = crossings cs net.edges 0 cell

    abbrev qs : List ℕ
    qs = crossings cs net.edges (grid_of grid).outer cell

    inside : (r : ℕ) {x : ℕ} → Memᴰ x (crossings cs net.edges r cell) → x < n
    inside r m = rw count at (crossing_node net ends cs r cell m)

    through→ : (v : ℕ) → v < n → through (distance net) ps qs v ≡ true → Gathered (arcs net) (member_flags n ps) (member_flags n qs) v
    unfolding through toward
    through→ v h t =
        let p = any→ (λ p. toward (distance net) qs p v) ps t in
        let q = any→ (λ q. between (distance net) p.0 q v) qs p.2 in
        let o = (between_walks net ends p.0 q.0 v (rw count (inside 0 p.1)) (rw count h)).0 q.2 in
        record {
          p = p.0;
          start = →listed n ps p.0 (inside 0 p.1) p.1;
          on = record {
            q = q.0;
            x = o.i;
            y = o.j;
            goal = →listed n qs q.0 (inside (grid_of grid).outer q.1) q.1;
            before = o.before;
            after = o.after;
            whole = o.whole;
          };
        }

    →through : (v : ℕ) → v < n → Gathered (arcs net) (member_flags n ps) (member_flags n qs) v → through (distance net) ps qs v ≡ true
    unfolding through toward
    →through v h g =
        let p = listed→ n ps g.p g.start in
        let q = listed→ n qs g.on.q g.on.goal in
        →any (λ p. toward (distance net) qs p v) ps p.1
        (→any (λ q. between (distance net) g.p q v) qs q.1
        ((between_walks net ends g.p g.on.q v (rw count p.0) (rw count h)).1
        (record { i = g.on.x; j = g.on.y; before = g.on.before; after = g.on.after; whole = g.on.whole })))

    gathered_flags : (s : List ℕ) → ((v : ℕ) → Flagged (flags n s) v ↔ Gathered (arcs_in e) (member_flags n ps) (member_flags n qs) v)
        → flags n s ≡ test_flags (through (distance net) ps qs) n
    gathered_flags s k =
        let k' = rw (← same_arcs) at k in
        flags_test n s ∙ test_flags_same _ _ n (λ v h. same_test (λ i. →through v h ((k' v).0 (→member n s v h i)))
        (λ t. (member→ n s v ((k' v).1 (through→ v h t))).1))

    -- The starts put into x, and the goals into y: the starts are not alone.
    pub starts_two : (x y : List ℕ) → region_flags n own x ≡ member_flags n ps → Only n want x y → NotAlone n own y
    starts_two x y f q v i =
        let s : Flagged (member_flags n ps) v = rw (flags_kept n own want x y (λ i. omega arith) q ∙ f) at i in
        omega (arith, size, crossing_two (node_count b) e on_ground.edges_rule cs 0 cell (listed→ n ps v s).1)

    -- From the words w, with the starts put into x, the goals into y, and gathered into z.
    pub gathered_cell : (w x y z : List ℕ) → region_flags n own x ≡ member_flags n ps → Only n own w x → region_flags n want y ≡ member_flags n qs → Only n want x y
        → ((v : ℕ) → Flagged (region_flags n gathered z) v ↔ Gathered (arcs_in e) (region_flags n own y) (region_flags n want y) v) → KeptStarts n y z
        → (region_flags n gathered z ≡ test_flags (through (distance net) ps qs) n) × (KeptFrom (region_at n transit) w z)
    gathered_cell w x y z f o g q k r =
        let f' : region_flags n own y ≡ member_flags n ps = flags_kept n own want x y (λ i. omega arith) q ∙ f in (
          gathered_flags (drop (region_at n gathered) z) (rw (f', g) at k),
          r.rest ∙ (after_kept _ _ x y q (region_at n transit) (omega arith) ∙ after_kept _ _ w x o (region_at n transit) (omega arith)),
        )

    -- From the words w, gathered into x, with the inner crossing nodes put into y, and those that are in both into z.
    pub access_cell : (w x y z : List ℕ) → region_flags n gathered x ≡ test_flags (through (distance net) ps qs) n → KeptFrom (region_at n transit) w x
        → region_flags n want y ≡ member_flags n (crossings cs net.edges (grid_of grid).inner cell) → Only n want x y
        → region_flags n own z ≡ both (region_flags n want y) (region_flags n gathered y) → Only n own y z
        → (region_flags n own z ≡ member_flags n (access_nodes (distance net) (grid_of grid) cs net.edges cell))
        × (KeptFrom (region_at n transit) w z)
    access_cell w x y z f r g o m p =
        let f' : region_flags n gathered y ≡ test_flags (through (distance net) ps qs) n = flags_kept n gathered want x y (λ i. omega arith) o ∙ f in (
          m ∙ rw (g, f') (sym (rw (count_cells b n size grid) at (access_flags (distance net) (grid_of grid) cs net.edges cell))),
          after_kept _ _ y z p (region_at n transit) (omega arith) ∙ (after_kept _ _ x y o (region_at n transit) (omega arith) ∙ r),
        )
