-- The members of a set: they are below n, and they are those that pass a test. Assumes nothing.
use Rattle.std.specs.Prelude.{ℕ, ◌<◌, ◌≡◌, refl, Bool}
use Rattle.std.proofs.Common.{arith}
use mathlib.Core.List.{List, [], ◌∷◌, Memᴰ}
use Rattle.model.specs.Lists.{filter, up_to}
use Rattle.theory.specs.Members.{range→}
use Rattle.bitset.specs.Bits.{is_in}
use Rattle.bitset.specs.Members.{members_of}

filter_same : (p q : ℕ → Bool) (l : List ℕ) → ((x : ℕ) → Memᴰ x l → p x ≡ q x) → filter p l ≡ filter q l
unfolding filter
filter_same p q [] h = refl
filter_same p q (x ∷ l) h = rw (h x (Memᴰ.head refl), filter_same p q l (λ y m. h y (Memᴰ.tail m)))

-- A set that has those of the numbers below n that pass a test.
pub members_passing : (n : ℕ) (s : List ℕ) (p : ℕ → Bool) → ((v : ℕ) → v < n → is_in s v ≡ p v) → members_of n s ≡ filter p (up_to n)
unfolding members_of
members_passing n s p h = filter_same (is_in s) p (up_to n) (λ v m. h v (omega (arith, (range→ 0 n v m).1)))
