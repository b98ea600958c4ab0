-- Looking on for an edge at a node, within a block and from block to block. Assumes nothing.
use Prim.Native.Nat.{ℕ, ◌+◌, ◌*◌, ◌/◌, ◌%◌, ◌<◌, ◌≤◌}
use native.Mathlib.Nat.{div-mul-le_self, div-add-mod', mod-lt, mul-le-mul_right, suc-mul, zero-mul}
use native.Mathlib.Decide.{ℕ_discrete}
use native.Mathlib.Omega.{arith}
use mathlib.Core.Path.{◌≡◌, sym, ap, ◌∙◌, subst}
use mathlib.Core.List.{List}
use mathlib.Core.Logic.{◌⊎◌, inl, inr, ⊎_elim}
use lib.ListN.{length}
use Rattle.model.specs.Bytes.{Bytes}
use Rattle.model.specs.Network.{edge, edge_count}
use Rattle.index.specs.Index.{Reading, by_blocks, read_in, here, there, Within, Incident, IndexedEdges}
use Rattle.index.proofs.Listing.{no_list}
use Rattle.index.proofs.Readings.{read_blocks, of_several}
use Rattle.words.specs.Regions.{index_in}
use Rattle.arcs.specs.declared.cursor.Cursor.{Cursor}
use Rattle.arcs.specs.Cursor.{After, rank}
use Rattle.arcs.specs.Seeking.{ending, block_at, FirstIncident, From, Seeking, Onward, Since, FoundFrom}

-- ---- one edge
module _ (edges : Bytes) (u i : ℕ) where
  pub none_here : ((edge edges i).first ≡ u → ⊥) → ((edge edges i).second ≡ u → ⊥) → Incident edges u i → ⊥
  none_here p q o = ⊎_elim p q o.end

  pub none_more : (a : ℕ) → ((j : ℕ) → a ≤ j → j < i → Incident edges u j → ⊥) → (Incident edges u i → ⊥) → (j : ℕ) → a ≤ j → j < i + 1
      → Incident edges u j → ⊥
  none_more a h p j l g o = pick (ℕ_discrete j i)
    where
      pick : Dec (j ≡ i) → ⊥
      pick (yes e) = p (subst (λ (z : ℕ). Incident edges u z) e o)
      pick (no d) = h j l (omega arith) o

module _ (edges : Bytes) (n : ℕ) (w : List ℕ) (u : ℕ) where
  abbrev read : Reading
  read = read_in edges n w

  -- ---- within a block
  pub since_within : (c : Cursor) (r : ℕ) → Seeking edges n w u c → FirstIncident edges u c.edge c.stop r
      → Since edges n w u c (record { edge = r; stop = c.stop; link = c.link; size = c.size })
  since_within c r s f = record {
    seeking = record { size = s.size; several = s.several; link = s.link; chain = s.chain; stop = s.stop; low = f.high };
    found = f.found;
    keeps = λ j o p. ⊎_elim (λ (a, b). inl (on j o a, b)) (λ q. inr q) p;
    less = unfold rank in omega (arith, f.low);
  }
    where
      on : (j : ℕ) → Incident edges u j → c.edge ≤ j → r ≤ j
      on j o a = let h : ¬ (j < r) = λ l. f.passed j a l o in omega arith

  -- ---- on to the next block
  module _ (roads : IndexedEdges edges n w) (u_in : u < n) (c : Cursor) (s : Seeking edges n w u c) where
    pub size_small : c.size < 65536
    size_small = omega (arith, s.size, roads.indexed.chained.sized u u_in, roads.indexed.small)

    -- The index is read by blocks.
    read_by_blocks : read ≡ by_blocks (index_in n w)
    read_by_blocks = read_blocks edges n w (of_several edges n w roads u u_in (λ e. s.several (s.size ∙ e)))

    pub link_inside : Within n (length (index_in n w)) c.link
    link_inside h = rw (ap (λ (z : Reading). z.reach) read_by_blocks) at (s.link h)

    pub same_block : (m : ℕ) → block_at m (by_blocks (index_in n w)) c.size c.link ≡ block_at m read c.size c.link
    same_block m = ap (λ (z : Reading). block_at m z c.size c.link) (sym read_by_blocks)

    module _ (at_stop : c.edge ≡ c.stop) (more : n ≤ c.link) where
      abbrev b : Cursor
      b = block_at (edge_count edges) read c.size c.link

      next_down : read.next c.link < c.link
      next_down = roads.indexed.chained.links c.link (omega arith) more

      pub seeking_block : Seeking edges n w u b
      seeking_block = record {
        size = s.size;
        several = s.several;
        link = λ h. omega (arith, next_down, s.link more);
        chain = λ q l. s.chain q (there more l);
        stop = omega arith;
        low = omega arith;
      }

      block_less : rank edges b < rank edges c
      unfolding rank
      block_less = omega (arith, suc-mul (read.next c.link) (edge_count edges + 1), mul-le-mul_right (edge_count edges + 1) next_down)

      in_block : (j : ℕ) → Incident edges u j → 0 < c.size → read.block c.link ≡ j / c.size → (b.edge ≤ j) × (j < b.stop)
      in_block j o h e =
          let p : j / c.size * c.size ≤ j = div-mul-le_self j c.size in
          let q : j % c.size < c.size = mod-lt j h in
          let r : read.block c.link * c.size ≡ j / c.size * c.size = ap (λ (z : ℕ). z * c.size) e in
          (omega arith, omega (arith, div-add-mod' j c.size, o.below))

      block_keeps : (j : ℕ) → Incident edges u j → From read n c j → From read n b j
      block_keeps j o (inl (a, l)) = absurd (omega arith)
      block_keeps j o (inr (h, here l e)) = inl (in_block j o h e)
      block_keeps j o (inr (h, there l p)) = inr (h, p)

      pub block_on : (c₀ : Cursor) → Since edges n w u c₀ c → Onward edges n w u c₀ b × (rank edges b < rank edges c)
      block_on c₀ t = (
        record { seeking = seeking_block; keeps = λ j o p. block_keeps j o (t.keeps j o p); less = omega (arith, t.less, block_less) },
        block_less,
      )

  pub onward_self : (c : Cursor) → Seeking edges n w u c → Onward edges n w u c c
  onward_self c s = record { seeking = s; keeps = λ j o p. p; less = omega arith }

  pub onward_then : (c₀ c c' : Cursor) → Onward edges n w u c₀ c → Since edges n w u c c' → Since edges n w u c₀ c'
  onward_then c₀ c c' f g = record {
    seeking = g.seeking;
    found = g.found;
    keeps = λ j o p. g.keeps j o (f.keeps j o p);
    less = omega (arith, f.less, g.less);
  }

  -- ---- the end of the chain, or an edge
  module _ (u_in : u < n) (c₀ c : Cursor) (t : Since edges n w u c₀ c) where
    pub sought_none : c.edge ≡ c.stop → c.link < n → FoundFrom edges n w u c₀ (ending edges c.size)
    sought_none e l = record {
      valid = record {
        size = t.seeking.size;
        link = λ h. absurd (omega arith);
        chain = λ q p. absurd (no_list read n 0 q (omega arith) p);
        stop = omega arith;
        inside = λ h. absurd (omega arith);
        single = λ h. omega arith;
        here = λ h. absurd (omega arith);
        over = λ h j p. nothing j p;
      };
      keeps = λ j o p. absurd (none j (t.keeps j o p));
      less = unfold rank in omega (arith, zero-mul (edge_count edges + 1));
    }
      where
        nothing : (j : ℕ) → After read n (ending edges c.size) j → ⊥
        nothing j (inl (a, b)) = omega arith
        nothing j (inr (a, p)) = no_list read n 0 _ (omega arith) p

        none : (j : ℕ) → From read n c j → ⊥
        none j (inl (a, b)) = omega arith
        none j (inr (a, p)) = no_list read n c.link _ l p

    pub sought_found : (c.edge ≡ c.stop → ⊥) → FoundFrom edges n w u c₀ c
    sought_found d = record {
      valid = record {
        size = t.seeking.size;
        link = t.seeking.link;
        chain = t.seeking.chain;
        stop = t.seeking.stop;
        inside = λ h. below;
        single = λ h. absurd (t.seeking.several h);
        here = λ h. t.found below;
        over = λ h j p. absurd (omega (arith, t.seeking.stop, below));
      };
      keeps = λ j o p. split j (t.keeps j o p);
      less = t.less;
    }
      where
        below : c.edge < c.stop
        below = omega (arith, t.seeking.low)

        split : (j : ℕ) → From read n c j → (j ≡ c.edge) ⊎ After read n c j
        split j (inl (a, b)) = pick (ℕ_discrete j c.edge)
          where
            pick : Dec (j ≡ c.edge) → (j ≡ c.edge) ⊎ After read n c j
            pick (yes e) = inl e
            pick (no x) = inr (inl (omega arith, b))
        split j (inr p) = inr (inr p)
