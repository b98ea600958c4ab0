-- Laws for a loop that goes through `up_to n`: what is left from i on. Assumes nothing.
use Rattle.std.specs.Prelude.{ℕ, zero, suc, ◌+◌, ◌-◌, ◌≤◌, ◌<◌, ◌≡◌, refl, Bool, true, ◌&&◌, List, [], ◌∷◌, map, length, get_or, eqb}
use Rattle.std.proofs.Common.{arith, add-one, ap}
use Rattle.model.specs.Lists.{range, up_to, all, Part, gapless}

-- The numbers from i up to n.
abbrev pub rest : ℕ → ℕ → List ℕ
rest i n = range i (n - i)

pub rest_step : (i n : ℕ) → i < n → rest i n ≡ i ∷ rest (i + 1) n
unfolding range
rest_step i n h =
    let e : n - i ≡ suc (n - (i + 1)) = omega arith in
    rw (e, add-one)

pub rest_end : (i n : ℕ) → n ≤ i → rest i n ≡ []
unfolding range
rest_end i n h = let e : n - i ≡ 0 = omega arith in rw e

pub rest_all : (n : ℕ) → up_to n ≡ rest 0 n
rest_all n = let e : n - 0 ≡ n = omega arith in rw e

module _ (p : ℕ → Bool) (i n : ℕ) where
  pub all_step : i < n → all p (rest i n) ≡ p i && all p (rest (i + 1) n)
  unfolding all
  all_step h = rw (rest_step i n h)

  pub all_end : n ≤ i → all p (rest i n) ≡ true
  unfolding all
  all_end h = rw (rest_end i n h)

module _ (f : ℕ → Part) (at i n end : ℕ) where
  pub gapless_step : i < n → gapless at (map f (rest i n)) end ≡ eqb (f i).start at && gapless (at + (f i).size) (map f (rest (i + 1) n)) end
  unfolding gapless
  gapless_step h = rw (rest_step i n h)

  pub gapless_end : n ≤ i → gapless at (map f (rest i n)) end ≡ eqb at end
  unfolding gapless
  gapless_end h = rw (rest_end i n h)

pub length-range : (i n : ℕ) → length (range i n) ≡ n
unfolding range
length-range i zero = refl
length-range i (suc n) = ap suc (length-range (suc i) n)

-- An element of a list that is made by its index.
pub get_d_map_range : {A : Type 0} (f : ℕ → A) (d : A) (s n i : ℕ) → i < n → get_or (map f (range s n)) i d ≡ f (s + i)
unfolding range
get_d_map_range f d s zero i h = absurd (omega arith)
get_d_map_range f d s (suc n) zero h = let e : s ≡ s + 0 = omega arith in ap f e
get_d_map_range f d s (suc n) (suc i) h = let e : suc s + i ≡ s + suc i = omega arith in rw (← e) (get_d_map_range f d (suc s) n i (omega arith))
