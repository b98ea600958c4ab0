-- What rule 10 says of a list of the access body, and rule 11 of the table. Assumes nothing.
use Rattle.std.specs.Prelude.{ℕ, zero, suc, ◌+◌, ◌*◌, ◌<◌, ◌≤◌, ◌≡◌, refl, true, false, List, [], ◌∷◌, map, length, get_or, eqb, ltb, leb}
use Rattle.std.proofs.Common.{zero-add, suc-mul, mul-le-mul_right, arith, ◌∙◌, eqb-true, ne_eqb, ltb-true, ltb-false, leb-false}
use Rattle.std.proofs.lemmas.List.{length-map}
use Rattle.model.specs.Lists.{Part, gapless, any, range, rising, up_to}
use Rattle.model.specs.Bytes.{Bytes, number_size}
use Rattle.model.specs.Pair.{seconds_of, hops_of}
use Rattle.model.specs.Oracle.{start_size, entry_size, list_size, value_size, no_walk, max_value, max_hops, decoded, value_key, value, key_broken, value_broken}
use Rattle.model.specs.Oracle.{table_entry, list_start, list_count, list_part, access_at, access_entry, indexes, entry_broken, list_broken, access_broken}
use Rattle.model.specs.Oracle.{cell_broken, table_broken}
use Rattle.theory.specs.Tests.{both}
use Rattle.theory.specs.RangeLaws.{length-range, get_d_map_range}
use Rattle.theory.specs.Members.{none_any, →up_to}
use Rattle.theory.specs.ReadLaws.{value_number}
use Rattle.theory.specs.Joined as joined
use Rattle.theory.specs.Passed.{or-false, not-false}
use Rattle.tables.specs.Premises.{HasList, InRange}

-- ---- values

-- A value that was read at a position where none is out of range.
in_range : (b : Bytes) (p v : ℕ) → value_broken b p ≡ false → decoded v ≡ value b p → InRange v
unfolding value_broken key_broken
in_range b p v h e ne =
    let q = or-false (ltb max_value (seconds_of v)) (ltb max_hops (hops_of v)) (rw (← value_number b p v e, ne_eqb v no_walk ne) at h) in
    omega (arith, ltb-false max_value (seconds_of v) q.0, ltb-false max_hops (hops_of v) q.1)

-- ---- a list of the access body

-- Parts without gaps stand from their beginning on.
gapless_from : (at end : ℕ) (ps : List Part) (k : ℕ) (d : Part) → gapless at ps end ≡ true → k < length ps → at ≤ (get_or ps k d).start
unfolding gapless
gapless_from at end [] k d h l = absurd (omega arith)
gapless_from at end (p ∷ ps) zero d h l = omega (arith, eqb-true p.start at (both h).0)
gapless_from at end (p ∷ ps) (suc k) d h l = omega (arith, gapless_from (at + p.size) end ps k d (both {b = eqb p.start at} h).1 (omega arith))

-- Numbers that rise and stay below T, n of them behind the first.
climbs : (T : ℕ) (f : ℕ → ℕ) (s n : ℕ) → rising (map f (range s (suc n))) ≡ true → ((i : ℕ) → i ≤ n → f (s + i) < T) → f s + n < T
unfolding rising range
climbs T f s zero h below =
    let e : s + 0 ≡ s = omega arith in
    let p : f s < T = rw e at (below 0 (omega arith)) in
    omega arith
climbs T f s (suc n) h below =
    let p = both {b = ltb (f s) (f (suc s))} h in
    let shift : (i : ℕ) → s + suc i ≡ suc s + i = λ i. omega arith in
    let more : f (suc s) + n < T = climbs T f (suc s) n p.1 (λ i l. rw (shift i) at (below (suc i) (omega arith))) in
    omega (arith, ltb-true (f s) (f (suc s)) p.0)

few : (T : ℕ) (f : ℕ → ℕ) (n : ℕ) → rising (map f (up_to n)) ≡ true → ((i : ℕ) → i < n → f i < T) → n ≤ T
few T f zero h below = omega arith
few T f (suc n) h below = omega (arith, climbs T f 0 n h (λ i l. rw zero-add (below i (omega arith))))

module _ (T : ℕ) (b : Bytes) (u : ℕ) (has : HasList T b u) where
  abbrev parts : List Part
  parts = map (list_part b) (up_to has.nodes)

  rule_10 : (gapless (start_size * has.nodes) parts (length b) ≡ true) × (any (list_broken T b) (up_to has.nodes) ≡ false)
  unfolding access_broken
  rule_10 = let p = or-false _ _ has.kept in (not-false p.0, p.1)

  in_parts : u < length parts
  in_parts = rw (length-map (up_to has.nodes) (list_part b), length-range 0 has.nodes) has.below

  its_part : get_or parts u (list_part b 0) ≡ list_part b u
  its_part = get_d_map_range (list_part b) (list_part b 0) 0 has.nodes u has.below ∙ rw zero-add

  pub list_within : list_start b u + list_size (list_count b u) ≤ length b
  list_within = joined.list_within has.nodes T b u has.kept has.below

  pub start_within : start_size * u + start_size ≤ length b
  unfolding list_part
  start_within =
      let from : start_size * has.nodes ≤ list_start b u = rw its_part at (gapless_from (start_size * has.nodes) (length b) parts u (list_part b 0) rule_10.0
      in_parts) in
      omega (arith, list_within, has.below)

  its_entries : (rising (indexes b u) ≡ true) × (any (entry_broken T b u) (up_to (list_count b u)) ≡ false)
  unfolding list_broken
  its_entries =
      let p = or-false _ _ (none_any (list_broken T b) (up_to has.nodes) rule_10.1 (→up_to has.nodes u has.below)) in
      (not-false p.0, p.1)

  module _ (i : ℕ) (l : i < list_count b u) where
    pub entry_within : access_at b u i + entry_size ≤ length b
    unfolding access_at
    entry_within = omega (arith, list_within)

    its_entry : (leb T (access_entry b u i).index ≡ false) × (value_broken b (access_at b u i + number_size) ≡ false)
    unfolding entry_broken
    its_entry = or-false _ _ (none_any (entry_broken T b u) (up_to (list_count b u)) its_entries.1 (→up_to (list_count b u) i l))

    pub index_below : (access_entry b u i).index < T
    index_below = leb-false T (access_entry b u i).index its_entry.0

    pub value_in_range : (v : ℕ) → decoded v ≡ (access_entry b u i).distance → InRange v
    unfolding access_entry
    value_in_range v e = in_range b (access_at b u i + number_size) v its_entry.1 e

    pub key_in_range : InRange (value_key b (access_at b u i + number_size))
    key_in_range = value_in_range _ (unfold access_entry value in refl)

-- ---- the table

module _ (T : ℕ) (b : Bytes) (kept : table_broken T b ≡ false) (i j : ℕ) (p : i < T) (q : j < T) where
  cell : i * T + j < T * T
  cell = omega (arith, mul-le-mul_right T p, suc-mul i T)

  rule_11 : (length b ≡ value_size * (T * T)) × (any (cell_broken b) (up_to (T * T)) ≡ false)
  unfolding table_broken
  rule_11 = let p = or-false _ _ kept in (eqb-true _ _ (not-false p.0), p.1)

  pub cell_within : value_size * (i * T + j) + value_size ≤ length b
  cell_within = omega (arith, cell, rule_11.0)

  pub cell_in_range : (v : ℕ) → decoded v ≡ table_entry b T i j → InRange v
  unfolding cell_broken table_entry
  cell_in_range v e = in_range b (value_size * (i * T + j)) v (none_any (cell_broken b) (up_to (T * T)) rule_11.1 (→up_to (T * T) (i * T + j) cell)) e
