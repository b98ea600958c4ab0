-- A coordinate of the model, which has 1,000,000 added, against the signed number that stands in the file. Assumes nothing.
use Prim.Native.Nat.{ℕ, suc, ◌+◌, ◌-◌, ◌%◌, ◌≤◌, ◌<◌}
use native.Mathlib.Omega.{arith}
use Rattle.std.specs.Prelude.{◌≡◌, ◌↔◌, Bool, ℤ}
use Rattle.std.proofs.Math.Path.{refl}
use Rattle.std.proofs.Common.{ap}
use Rattle.std.proofs.Math.Bool.{true, false, cond}
use Rattle.std.proofs.Math.Dec.{ltb}
use Rattle.std.proofs.Math.IntN.{pos, negsuc, sub_ℕ}
use borrow.Author.Tests.{lt-ltb, le-ltb, ltb-true, ltb-false}
use Rattle.model.specs.Network.{coordinate, max_metres}

-- The signed number of 32 bits (two's complement): u itself, and from 2,147,483,648 on u − 4,294,967,296. `negsuc n` is −(n + 1).
unfoldable pub signed : ℕ → ℤ
signed u = cond (ltb u 2_147_483_648) (pos u) (negsuc (4_294_967_295 - u))

-- From −1,000,000 to 1,000,000.
abbrev pub InRange : ℤ → Type 0
InRange (pos n) = n ≤ max_metres
InRange (negsuc n) = n + 1 ≤ max_metres

module _ (u : ℕ) (word : u < 4_294_967_296) where
  -- The model's range is the range of the signed number.
  pub in_range : (coordinate u ≤ max_metres + max_metres) ↔ InRange (signed u)
  unfolding coordinate signed
  in_range = pick (ltb u 2_147_483_648) refl
    where
      pick : (b : Bool) → ltb u 2_147_483_648 ≡ b → ((u + max_metres) % 4_294_967_296 ≤ max_metres + max_metres) ↔ InRange
          (cond b (pos u) (negsuc (4_294_967_295 - u)))
      pick true e = let l = ltb-true u 2_147_483_648 e in (λ h. omega arith, λ h. omega arith)
      pick false e = let l = ltb-false u 2_147_483_648 e in (λ h. omega arith, λ h. omega arith)

  -- In range, the signed number is the coordinate less 1,000,000.
  pub is_less : coordinate u ≤ max_metres + max_metres → signed u ≡ sub_ℕ (coordinate u) max_metres
  unfolding coordinate signed
  is_less h = pick (ltb u 2_147_483_648) refl
    where
      pick : (b : Bool) → ltb u 2_147_483_648 ≡ b → cond b (pos u) (negsuc (4_294_967_295 - u)) ≡ sub_ℕ ((u + max_metres) % 4_294_967_296) max_metres
      pick true e =
          let l = ltb-true u 2_147_483_648 e in
          let g : max_metres ≤ (u + max_metres) % 4_294_967_296 = omega arith in
          let q : u ≡ (u + max_metres) % 4_294_967_296 - max_metres = omega arith in
          simp (le-ltb _ _ g) (ap pos q)
      pick false e =
          let l = ltb-false u 2_147_483_648 e in
          let g : (u + max_metres) % 4_294_967_296 < max_metres = omega arith in
          let q : 4_294_967_295 - u ≡ max_metres - suc ((u + max_metres) % 4_294_967_296) = omega arith in
          simp (lt-ltb _ _ g) (ap negsuc q)
