-- A row of the table, as what stands from its beginning on. Assumes nothing.
use Prim.Native.Nat.{ℕ, ◌-◌, ◌*◌, ◌<◌, ◌≤◌}
use native.Mathlib.Nat.{mul-add}
use native.Mathlib.Omega.{arith}
use mathlib.Core.Path.{◌≡◌, refl, sym, ◌∙◌, ap}
use mathlib.Core.Bool.{false}
use mathlib.Core.List.{List, [], ◌∷◌}
use lib.ListN.{length, take, drop, length-drop}
use lib.Seq.{take_all}
use Rattle.model.specs.Bytes.{Bytes}
use Rattle.model.specs.Distance.{Distance, unreachable, finite, plus, sooner, soonest}
use Rattle.model.specs.Oracle.{value_size, decoded, value, AccessEntry, table_entry, table_broken}
use Rattle.model.specs.Query.{sum_by}
use Rattle.theory.specs.ReadLaws.{value_drop}
use Rattle.tables.specs.Premises.{Row, sum_in}
use Rattle.tables.specs.Entries.{cell_within, cell_in_range}

-- ---- a distance added to the least is the least with it added

plus_sooner : (d x y : Distance) → plus d (sooner x y) ≡ sooner (plus d x) (plus d y)
unfolding plus sooner
plus_sooner unreachable x y = refl
plus_sooner (finite k) unreachable y = refl
plus_sooner (finite k) (finite m) unreachable = refl
plus_sooner (finite k) (finite m) (finite n) = ap finite (omega arith)

plus_soonest : {A : Type 0} (d : Distance) (f : A → Distance) (l : List A) → plus d (soonest f l) ≡ soonest (λ x. plus d (f x)) l
unfolding soonest
plus_soonest unreachable f [] = unfold plus in refl
plus_soonest (finite k) f [] = unfold plus in refl
plus_soonest d f (x ∷ l) = plus_sooner d (f x) (soonest f l) ∙ ap (sooner (plus d (f x))) (plus_soonest d f l)

-- ---- the row of a transit node

-- As a part of the table it is the part up to the table's end.
whole_part : (b : Bytes) (p : ℕ) → take (length b - p) (drop p b) ≡ drop p b
whole_part b p = take_all (length b - p) (drop p b) (simp length-drop (omega arith))

module _ (T : ℕ) (b : Bytes) (i : ℕ) where
  -- The row of transit node i, and all behind it.
  abbrev pub row_from : Bytes
  row_from = drop (value_size * (i * T)) b

  row_at : (k : ℕ) → value row_from (value_size * k) ≡ table_entry b T i k
  unfolding table_entry
  row_at k = sym (value_drop b (value_size * (i * T)) (value_size * k)) ∙ ap (value b) (sym (mul-add value_size (i * T) k))

  abbrev pub row_part : Bytes
  row_part = take (length b - value_size * (i * T)) row_from

  pub row_kept : table_broken T b ≡ false → i < T → Row T row_part
  row_kept kept p = rw (whole_part b (value_size * (i * T))) (record {
    within = λ k q. omega (arith, cell_within T b kept i k p q, length-drop (value_size * (i * T)) b);
    range = λ k q. cell_in_range T b kept i k p q _ (unfold value in row_at k);
  })

  -- The row stands in the table.
  pub row_within : table_broken T b ≡ false → i < T → value_size * (i * T) ≤ length b
  row_within kept p = omega (arith, cell_within T b kept i 0 p (omega arith))

-- The sums for an entry of a list, whose index and value were read, are those over its row.
pub row_sums : (T : ℕ) (b : Bytes) (a : AccessEntry) (index v : ℕ) (l : List AccessEntry) → index ≡ a.index → decoded v ≡ a.distance
    → plus (decoded v) (soonest (sum_in (row_part T b index)) l) ≡ soonest (sum_by b T a) l
row_sums T b a index v l p q = rw (p, q, whole_part b (value_size * (a.index * T))) (plus_soonest a.distance (sum_in (row_from T b a.index)) l
    ∙ (λ k. soonest (λ e. one e k) l))
  where
    one : (e : AccessEntry) → plus a.distance (sum_in (row_from T b a.index) e) ≡ sum_by b T a e
    one e = unfold sum_in sum_by in ap (λ d. plus a.distance (plus d e.distance)) (row_at T b a.index e.index)
