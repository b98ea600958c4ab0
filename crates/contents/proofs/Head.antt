-- Rule 1, test by test: the ways out of the check. Assumes nothing.
use Prim.Native.Nat.{ℕ, ◌<◌, ◌≤◌}
use mathlib.Core.Path.{◌≡◌}
use mathlib.Core.Bool.{true, or-true}
use lib.ListN.{length}
use lib.Dec.{ltb}
use borrow.Author.Tests.{lt-ltb, le-ltb, eq-eqb, ne_eqb}
use Rattle.model.specs.Bytes.{Bytes, byte}
use Rattle.model.specs.Contents.{entry_at, contents_broken}

module _ (edition n : ℕ) (f : Bytes) where
  pub by_length : length f < 2 → true ≡ contents_broken edition n f
  unfolding contents_broken
  by_length h = simp (lt-ltb (length f) 2 h)

  pub by_edition : (x : ℕ) → x ≡ byte f 0 → (x ≡ edition → ⊥) → true ≡ contents_broken edition n f
  unfolding contents_broken
  by_edition x e ne = rw (← e) (simp (ne_eqb x edition ne, or-true))

  pub by_entries : (x : ℕ) → x ≡ byte f 1 → (x ≡ n → ⊥) → true ≡ contents_broken edition n f
  unfolding contents_broken
  by_entries x e ne = rw (← e) (simp (ne_eqb x n ne, or-true))

  pub by_contents : (x y at : ℕ) → 2 ≤ length f → x ≡ byte f 0 → x ≡ edition → y ≡ byte f 1 → y ≡ n → at ≡ entry_at n
      → ltb (length f) at ≡ contents_broken edition n f
  unfolding contents_broken
  by_contents x y at h e p d q a = rw (← e, ← d, ← a) (simp (le-ltb (length f) 2 h, eq-eqb x edition p, eq-eqb y n q))
