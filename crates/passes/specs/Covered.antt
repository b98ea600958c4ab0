-- Passing the cells one by one: at the first node u of a cell, each node of that cell is seen to. P says of a node that it is seen to.
-- Assumes nothing.
use Rattle.std.specs.Prelude.{ℕ, ◌+◌, ◌≤◌, ◌<◌, ◌≡◌, refl, ◌⊎◌, true, false, List}
use Rattle.std.proofs.Math.Decide.{ℕ_discrete}
use Rattle.std.proofs.Common.{arith, sym, ◌∙◌, ap, subst, inl, inr}
use Rattle.std.proofs.lemmas.Bool.{false≢true}
use Rattle.model.specs.Grid.{Cell, cell_at}
use Rattle.crossing.specs.Cells.{same_cell, first_of_cell, same_cell_law, first_found}

module _ (cs : List Cell) where
  -- Some node below u has the cell of v.
  pub record Covered (u v : ℕ) : Type 0 where
    pub by : ℕ
    pub before : by < u
    pub same : cell_at cs by ≡ cell_at cs v

  -- v is below w and has the cell of u.
  abbrev pub Beside : ℕ → ℕ → ℕ → Type 0
  Beside u w v = (v < w) × (cell_at cs u ≡ cell_at cs v)

  -- The nodes of the cells met before u are seen to.
  abbrev pub Seen : (ℕ → Type 0) → ℕ → ℕ → Type 0
  Seen P n u = (v : ℕ) → v < n → Covered u v → P v

  -- And those below w of the cell of u.
  abbrev pub SeenTo : (ℕ → Type 0) → ℕ → ℕ → ℕ → Type 0
  SeenTo P n u w = (v : ℕ) → v < n → Covered u v ⊎ Beside u w v → P v

  module _ (P : ℕ → Type 0) (n : ℕ) where
    pub seen_none : Seen P n 0
    seen_none v h c = absurd (omega (arith, c.before))

    pub seen_all : (u : ℕ) → n ≤ u → Seen P n u → (v : ℕ) → v < n → P v
    seen_all u l s v h = s v h (record { by = v; before = omega arith; same = refl })

    -- A node that is not the first of its cell covers no new one.
    pub seen_later : (u : ℕ) → first_of_cell cs u ≡ false → Seen P n u → Seen P n (u + 1)
    seen_later u later s v h c = pick (ℕ_discrete c.by u)
      where
        pick : Dec (c.by ≡ u) → P v
        pick (no d) = s v h (record { by = c.by; before = omega (arith, c.before); same = c.same })
        pick (yes e) =
            let (x, l, first, q) = first_found cs u in
            let below : x < u = earlier x l first (ℕ_discrete x u) in
            s v h (record { by = x; before = below; same = q ∙ (ap (cell_at cs) (sym e) ∙ c.same) })
          where
            earlier : (x : ℕ) → x ≤ u → first_of_cell cs x ≡ true → Dec (x ≡ u) → x < u
            earlier x l first (yes e) = absurd (false≢true (sym later ∙ (ap (first_of_cell cs) (sym e) ∙ first)))
            earlier x l first (no d) = omega arith

    pub to_none : (u : ℕ) → Seen P n u → SeenTo P n u 0
    to_none u s v h (inl c) = s v h c
    to_none u s v h (inr b) = absurd (omega (arith, b.0))

    pub to_all : (u w : ℕ) → n ≤ w → SeenTo P n u w → Seen P n (u + 1)
    to_all u w l s v h c = pick (ℕ_discrete c.by u)
      where
        pick : Dec (c.by ≡ u) → P v
        pick (no d) = s v h (inl (record { by = c.by; before = omega (arith, c.before); same = c.same }))
        pick (yes e) = s v h (inr (omega arith, ap (cell_at cs) (sym e) ∙ c.same))

    -- A node of another cell.
    pub to_other : (u w : ℕ) → same_cell cs u w ≡ false → SeenTo P n u w → SeenTo P n u (w + 1)
    to_other u w other s v h (inl c) = s v h (inl c)
    to_other u w other s v h (inr b) = s v h (inr (below (ℕ_discrete v w), b.1))
      where
        below : Dec (v ≡ w) → v < w
        below (yes e) = absurd (false≢true (sym other ∙ (same_cell_law cs u w).1 (b.1 ∙ ap (cell_at cs) e)))
        below (no d) = omega (arith, b.0)

  -- A node of the cell of u is seen to, and the others stay as they are.
  pub to_same : (P Q : ℕ → Type 0) (n u w : ℕ) → SeenTo P n u w → Q w → ((v : ℕ) → v < n → (v ≡ w → ⊥) → P v → Q v) → SeenTo Q n u (w + 1)
  to_same P Q n u w s q kept v h c = pick (ℕ_discrete v w) c
    where
      pick : Dec (v ≡ w) → Covered u v ⊎ Beside u (w + 1) v → Q v
      pick (yes e) c = subst Q (sym e) q
      pick (no d) (inl c) = kept v h d (s v h (inl c))
      pick (no d) (inr b) = kept v h d (s v h (inr (omega (arith, b.0), b.1)))
