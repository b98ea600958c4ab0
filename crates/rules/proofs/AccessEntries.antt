-- The entries of an access list: rising indexes, and the loop over them. Assumes nothing.
use Prim.Native.Nat.{ℕ, ◌+◌, ◌*◌, ◌≤◌, ◌<◌}
use native.Mathlib.Omega.{arith}
use mathlib.Core.Path.{◌≡◌, refl, ◌∙◌, ap}
use mathlib.Core.Bool.{Bool, true, false, not, ◌&&◌, ◌||◌, or-true, true≢false}
use mathlib.Core.List.{map, map-map}
use lib.ListN.{length}
use lib.Dec.{leb, ltb}
use borrow.Author.Tests.{ltb-true, ltb-false, le-leb, lt-leb}
use Rattle.model.specs.Lists.{any, up_to}
use Rattle.model.specs.Bytes.{Bytes, word16, number_size}
use Rattle.model.specs.Oracle.{count_size, entry_size, list_size, list_start, list_count, list_part, access_at, access_entry, access_list, indexes, value_broken}
use Rattle.model.specs.Oracle.{entry_broken, list_broken}
use Rattle.theory.specs.RangeLaws.{rest, rest_all, rest_step, rest_end}
use Rattle.rules.proofs.Climb.{rising_from, rising_from_law}

-- The index of entry i.
abbrev pub index_at : Bytes → ℕ → ℕ → ℕ
index_at b u i = (access_entry b u i).index

-- What is read of a list that stands inside the body.
pub list_read : (b : Bytes) (u start count : ℕ) → start ≡ list_start b u → count ≡ word16 b start → list_start b u + (list_part b u).size ≤ length b
    → (start + list_size count ≤ length b) × (count ≡ list_count b u)
unfolding list_part list_count
list_read b u start count p q h = let e : count ≡ word16 b (list_start b u) = q ∙ ap (word16 b) p in (omega arith, e)

-- What the entries from i to c break.
abbrev pub entries_left : ℕ → Bytes → ℕ → ℕ → ℕ → ℕ → Bool
entries_left T b u least i c = not (rising_from least (map (index_at b u) (rest i c))) || any (entry_broken T b u) (rest i c)

pub entries_all : (T : ℕ) (b : Bytes) (u c : ℕ) → c ≡ list_count b u → list_broken T b u ≡ entries_left T b u 0 0 c
unfolding list_broken indexes access_list
entries_all T b u c e = rw (← e, ← rest_all c, map-map (λ e. e.index) (access_entry b u) (up_to c), rising_from_law (map (index_at b u) (up_to c)))

-- One entry with index x and test e, before the rest, of which r tells whether they rise and a whether one is broken.
first_bad : (x least : ℕ) (e r a : Bool) → ltb x least || e ≡ true → not (leb least x && r) || (e || a) ≡ true
first_bad x least e r a h = step (ltb x least) refl h
  where
    step : (t : Bool) → ltb x least ≡ t → t || e ≡ true → not (leb least x && r) || (e || a) ≡ true
    step true l h = rw (lt-leb least x (ltb-true x least l))
    step false l h = rw h (or-true (not (leb least x && r)))

first_good : (x least : ℕ) (e r a : Bool) → ltb x least || e ≡ false → not (leb least x && r) || (e || a) ≡ not r || a
first_good x least e r a h = step (ltb x least) refl h
  where
    step : (t : Bool) → ltb x least ≡ t → t || e ≡ false → not (leb least x && r) || (e || a) ≡ not r || a
    step true l h = absurd (true≢false h)
    step false l h = rw (le-leb least x (ltb-false x least l), h)

-- The index of the entry at `at` is below `least`, or the entry is broken by itself.
abbrev pub breaks : ℕ → ℕ → Bytes → ℕ → Bool
breaks T least b at = ltb (word16 b at) least || (leb T (word16 b at) || value_broken b (at + number_size))

module _ (T : ℕ) (b : Bytes) (u least i c start : ℕ) (h : i < c) (q : start ≡ list_start b u) where
  pub entries_bad : breaks T least b (start + count_size + entry_size * i) ≡ true → entries_left T b u least i c ≡ true
  unfolding rising_from any entry_broken access_entry access_at
  entries_bad e = rw (rest_step i c h) (first_bad _ least _ _ _ (rw q at e))

  pub entries_good : breaks T least b (start + count_size + entry_size * i) ≡ false → (x : ℕ) → x ≡ word16 b (start + count_size + entry_size * i)
      → entries_left T b u least i c ≡ entries_left T b u (x + 1) (i + 1) c
  unfolding rising_from any entry_broken access_entry access_at
  entries_good e x p = rw (rest_step i c h, p, q) (first_good _ least _ _ _ (rw q at e))

pub entries_end : (T : ℕ) (b : Bytes) (u least i c : ℕ) → c ≤ i → entries_left T b u least i c ≡ false
unfolding rising_from any
entries_end T b u least i c h = rw (rest_end i c h)
