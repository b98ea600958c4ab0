-- A loop over the entries of a list that keeps the least, in terms of what is left from entry i on. Assumes nothing.
use Prim.Native.Nat.{ℕ, ◌+◌, ◌<◌, ◌≤◌, min}
use native.Mathlib.Omega.{arith}
use mathlib.Core.Path.{◌≡◌, refl, sym, ap}
use mathlib.Core.List.{map}
use Rattle.model.specs.Bytes.{Bytes}
use Rattle.model.specs.Distance.{Distance, unreachable, finite, sooner, soonest}
use Rattle.model.specs.Oracle.{no_walk, list_count, AccessEntry, access_entry, access_list}
use Rattle.theory.specs.RangeLaws.{rest, rest_step, rest_end, rest_all}
use Rattle.tables.specs.Premises.{summed}
use Rattle.tables.proofs.Values.{summed_none, lesser_tells}

sooner_none : (x : Distance) → sooner x unreachable ≡ x
unfolding sooner
sooner_none unreachable = refl
sooner_none (finite m) = refl

sooner_assoc : (x y z : Distance) → sooner (sooner x y) z ≡ sooner x (sooner y z)
unfolding sooner
sooner_assoc unreachable y z = refl
sooner_assoc (finite k) unreachable z = refl
sooner_assoc (finite k) (finite m) unreachable = refl
sooner_assoc (finite k) (finite m) (finite n) = ap finite (omega arith)

-- The least of `least` and of f for each entry from i up to n.
abbrev pub least_left : (AccessEntry → Distance) → Bytes → ℕ → ℕ → ℕ → ℕ → Distance
least_left f b u n least i = sooner (summed least) (soonest f (map (access_entry b u) (rest i n)))

module _ (f : AccessEntry → Distance) (b : Bytes) (u n : ℕ) where
  pub least_all : n ≡ list_count b u → soonest f (access_list b u) ≡ least_left f b u n no_walk 0
  unfolding access_list sooner
  least_all e = rw (summed_none no_walk (omega arith), e, ← rest_all (list_count b u))

  pub least_next : (i least x next : ℕ) → i < n → summed x ≡ f (access_entry b u i) → next ≡ min least x
      → least_left f b u n least i ≡ least_left f b u n next (i + 1)
  unfolding soonest
  least_next i least x next h e l = rw (rest_step i n h, l, lesser_tells least x, e) (sym (sooner_assoc (summed least) (f (access_entry b u i))
      (soonest f (map (access_entry b u) (rest (i + 1) n)))))

  pub least_end : (i least : ℕ) → n ≤ i → least_left f b u n least i ≡ summed least
  unfolding soonest
  least_end i least h = rw (rest_end i n h) (sooner_none (summed least))
