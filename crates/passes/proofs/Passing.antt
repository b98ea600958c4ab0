-- One node after another: what the regions TRANSIT and COUNTS hold. Assumes nothing.
use Prim.Native.Nat.{ℕ, ◌+◌, ◌≤◌, ◌<◌}
use native.Mathlib.Omega.{arith}
use mathlib.Core.Path.{◌≡◌, refl, sym, ap, ◌∙◌}
use mathlib.Core.Logic.{◌↔◌, ◌⊎◌, inl, inr, ⊎_elim}
use mathlib.Core.Bool.{Bool, true, false, cond, false≢true}
use mathlib.Core.List.{List, Memᴰ}
use lib.ListN.{length, drop, replicate}
use Rattle.model.specs.Bytes.{Bytes}
use Rattle.model.specs.Network.{node_count}
use Rattle.model.specs.Grid.{Cell}
use Rattle.algorithms.specs.Settle.{blank}
use Rattle.bitset.specs.Bits.{flags}
use Rattle.marks.specs.Due.{Flagged}
use Rattle.grid.specs.declared.Grid.{Grid}
use Rattle.crossing.specs.Sets.{either, ones}
use Rattle.crossing.specs.Cells.{same_cell, first_of_cell, same_cell_law}
use Rattle.crossing.specs.Ground.{cells_in, Ground}
use Rattle.words.specs.Halves.{half_words}
use Rattle.words.specs.Regions.{region_at, region_flags, own, transit, counts, count_of, index_at}
use Rattle.words.proofs.Windows.{flags_before}
use Rattle.access.proofs.Flagging.{either_flagged}
use Rattle.passes.specs.Building.{access_of, transit_in, members_in}
use Rattle.passes.specs.Covered.{Covered, Beside, seen_none, seen_later, seen_all, to_all}
use Rattle.passes.specs.Passed.{Told, CellsPassed}
use Rattle.passes.proofs.Counting.{count_kept}
use Rattle.passes.proofs.Listing.{flagged_member, count_members}
use Rattle.passes.specs.BuildingLaws.{same_access, in_transit}
use Rattle.passes.proofs.Taken.{transit_needed, members_transit}
use Rattle.words.specs.Frames.{OnlyIn, Only, KeptFrom}
use Rattle.words.proofs.Stays.{kept_more, after_kept}

module _ (b e : Bytes) (grid : Grid) (n : ℕ) where
  abbrev cs : List Cell
  cs = cells_in grid b

  pub passed_none : (w : List ℕ) → region_flags n transit w ≡ replicate n 0 → CellsPassed b e grid n 0 w
  passed_none w z = record {
    sound = λ a m. let f : Flagged (replicate n 0) a = rw z at ((flagged_member n transit w a).1 m) in absurd (omega (arith, blank n a));
    seen = seen_none cs (Told b e grid n w) n;
  }

  -- A node that is not the first of its cell.
  pub passed_later : (u : ℕ) (w : List ℕ) → CellsPassed b e grid n u w → false ≡ first_of_cell cs u → CellsPassed b e grid n (u + 1) w
  passed_later u w g f = record { sound = g.sound; seen = seen_later cs (Told b e grid n w) n u (sym f) g.seen }

  -- The first of its cell: from the words w, the access nodes put into x, their union with region TRANSIT into y, and their count into z.
  module _ (u : ℕ) (h : u < n) (w x y z : List ℕ) (g : CellsPassed b e grid n u w)
      (mine : members_in n own x ≡ access_of b e grid u) (rest : KeptFrom (region_at n transit) w x)
      (united : region_flags n transit y ≡ either (region_flags n own x) (region_flags n transit x)) (apart : Only n transit x y)
      (k : ℕ) (count : k ≡ ones (region_flags n own x))
      (put : (v : ℕ) → v < n → count_of n z v ≡ cond (same_cell cs u v) k (count_of n y v))
      (alone : OnlyIn (region_at n counts) (half_words n) y z) where
    joined : (a : ℕ) → Memᴰ a (members_in n transit z) ↔ (Memᴰ a (access_of b e grid u) ⊎ Memᴰ a (members_in n transit w))
    joined a =
        let i = flagged_member n transit z a in
        let j = rw mine at (flagged_member n own x a) in
        let l = flagged_member n transit w a in
        let f : region_flags n transit z ≡ either (region_flags n own x) (region_flags n transit x) = flags_before _ _ y z alone n transit (omega arith)
        ∙ united in
        let t : region_flags n transit x ≡ region_flags n transit w = ap (flags n) rest in
        let d = either_flagged n (drop (region_at n own) x) (drop (region_at n transit) x) a in (
          λ m. ⊎_elim (λ p. inl (j.0 p)) (λ p. inr (l.0 (rw t at p))) (d.0 (rw f at (i.1 m))),
          λ m. i.0 (rw f (d.1 (⊎_elim (λ p. inl (j.1 p)) (λ p. inr (rw t (l.1 p))) m))),
        )

    -- The counts of the others stay.
    stayed : (v : ℕ) → v < n → count_of n y v ≡ count_of n w v
    stayed =
        let r = kept_more (region_at n transit) (region_at n counts) w x (omega arith) rest in
        let s = after_kept _ _ x y apart (region_at n counts) (omega arith) in
        count_kept n w y (s ∙ r)

    -- A node of the cell of u, and one of another.
    told_same : (v : ℕ) → v < n → same_cell cs u v ≡ true → Told b e grid n z v
    told_same v l s =
        let q = same_access b e grid u v ((same_cell_law cs u v).0 s) in
        record {
          counted = put v l ∙ rw s (count ∙ (count_members n own x ∙ ap length (mine ∙ q)));
          members = λ a m. (joined a).1 (inl (rw q m));
        }

    told_other : (v : ℕ) → v < n → same_cell cs u v ≡ false → Told b e grid n w v → Told b e grid n z v
    told_other v l s t = record { counted = put v l ∙ rw s (stayed v l ∙ t.counted); members = λ a m. (joined a).1 (inr (t.members a m)) }

    told : (v : ℕ) → v < n → Covered cs u v ⊎ Beside cs u n v → Told b e grid n z v
    told v l d = pick (same_cell cs u v) refl d
      where
        pick : (s : Bool) → same_cell cs u v ≡ s → Covered cs u v ⊎ Beside cs u n v → Told b e grid n z v
        pick true s d = told_same v l s
        pick false s (inl d) = told_other v l s (g.seen v l d)
        pick false s (inr d) = absurd (false≢true (sym s ∙ (same_cell_law cs u v).1 d.1))

    pub passed_next : CellsPassed b e grid n (u + 1) z × (KeptFrom (index_at n) w z)
    passed_next = (
      record {
        sound = λ a m. ⊎_elim (λ i. record { by = u; below = h; listed = i }) (g.sound a) ((joined a).0 m);
        seen = to_all cs (Told b e grid n z) n u n (omega arith) told;
      },
      after_kept _ _ y z alone (index_at n) (omega arith)
          ∙ (after_kept _ _ x y apart (index_at n) (omega arith) ∙ kept_more (region_at n transit) (index_at n) w x (omega arith) rest),
    )

  -- All nodes are passed.
  pub passed_all : Ground b e grid → n ≡ node_count b → (u : ℕ) (w : List ℕ) → n ≤ u → CellsPassed b e grid n u w
      → (members_in n transit w ≡ transit_in b e grid) × ((v : ℕ) → v < n → count_of n w v ≡ length (access_of b e grid v))
  passed_all on_ground size u w l g =
      let t = seen_all cs (Told b e grid n w) n u l g.seen in (
        members_transit b e grid n size transit w (λ a m. let d = g.sound a m in in_transit b e grid n size d.by d.below a d.listed)
            (λ a m. let d = transit_needed b e grid n size a m in (t d.by d.below).members a d.listed),
        λ v h. (t v h).counted,
      )
