-- The size of lists, summed up one after the other. Assumes nothing.
use Prim.Native.Nat.{ℕ, ◌+◌, ◌≤◌, ◌<◌}
use native.Mathlib.Omega.{arith}
use mathlib.Core.Path.{◌≡◌, refl, ◌∙◌, ap}
use mathlib.Core.List.{List, [], ◌∷◌, map, map-map}
use lib.ListN.{length, length-append}
use Rattle.model.specs.Lists.{concat, up_to, total}
use Rattle.model.specs.Bytes.{Bytes}
use Rattle.model.specs.Oracle.{list_size}
use Rattle.theory.specs.RangeLaws.{rest, rest_all, rest_step, rest_end}
use Rattle.theory.specs.Members.{range→}
use Rattle.words.specs.Halves.{half}
use Rattle.emit.specs.Parts.{list_sizes}
use Rattle.emit.specs.PartLaws.{map_same}

module _ (counts : List ℕ) (n : ℕ) where
  -- The size of the lists from list v on.
  abbrev pub left : ℕ → ℕ
  left v = total (map (λ u. list_size (half counts u)) (rest v n))

  pub sum_all : total (list_sizes n counts) ≡ left 0
  unfolding list_sizes
  sum_all = rw (← rest_all n)

  pub sum_step : (v : ℕ) → v < n → left v ≡ list_size (half counts v) + left (v + 1)
  unfolding total
  sum_step v h = rw (rest_step v n h)

  pub sum_end : (v : ℕ) → n ≤ v → left v ≡ 0
  unfolding total
  sum_end v h = rw (rest_end v n h)

-- ---- the lists that have these sizes
length_concat : (ls : List Bytes) → length (concat ls) ≡ total (map length ls)
unfolding concat total
length_concat [] = refl
length_concat (l ∷ ls) = omega (arith, length-append l (concat ls), length_concat ls)

pub length_lists : (f : ℕ → Bytes) (n : ℕ) (counts : List ℕ) → ((v : ℕ) → v < n → length (f v) ≡ list_size (half counts v))
    → length (concat (map f (up_to n))) ≡ total (list_sizes n counts)
unfolding list_sizes
length_lists f n counts h =
    length_concat (map f (up_to n)) ∙
    ap total (map-map length f (up_to n) ∙ map_same _ _ (up_to n) (λ v m. h v (omega (arith, (range→ 0 n v m).1))))
