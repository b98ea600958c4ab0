-- How many wanted nodes a search begins with: as many as the set has. Assumes nothing.
use Prim.Native.Nat.{ℕ, suc}
use native.Mathlib.Omega.{arith}
use mathlib.Core.Path.{◌≡◌, refl, ap, ◌∙◌}
use mathlib.Core.Bool.{Bool, true, false, cond}
use mathlib.Core.List.{List, [], ◌∷◌, map}
use lib.ListN.{drop, replicate}
use Rattle.model.specs.Lists.{up_to}
use Rattle.algorithms.specs.Stops.{lacking, nonzeros, lacking_all}
use Rattle.bitset.specs.Bits.{is_in, flags}
use Rattle.crossing.specs.Sets.{test_flags, ones}
use Rattle.crossing.specs.SetLaws.{flags_test, length_test_flags}
use Rattle.words.specs.Regions.{region_at, region_flags, want, want_in, search_words}

nonzeros_ones : (p : ℕ → Bool) (l : List ℕ) → nonzeros (map (λ v. cond (p v) 1 0) l) ≡ ones (map (λ v. cond (p v) 1 0) l)
unfolding nonzeros ones
nonzeros_ones p [] = refl
nonzeros_ones p (v ∷ l) = step (p v) (nonzeros_ones p l)
  where
    step : (b : Bool) → nonzeros (map (λ v. cond (p v) 1 0) l) ≡ ones (map (λ v. cond (p v) 1 0) l)
        → nonzeros (cond b 1 0 ∷ map (λ v. cond (p v) 1 0) l) ≡ ones (cond b 1 0 ∷ map (λ v. cond (p v) 1 0) l)
    step true e = ap suc e
    step false e = e

lacking_ones : (p : ℕ → Bool) (n : ℕ) → lacking (test_flags p n) (replicate n 0) ≡ ones (test_flags p n)
unfolding test_flags
lacking_ones p n = lacking_all (test_flags p n) n (omega (arith, length_test_flags p n)) ∙ nonzeros_ones p (up_to n)

-- The set that a search looks for is region WANT.
pub want_region : (n : ℕ) (w : List ℕ) → want_in n w ≡ region_flags n want w
unfolding want_in
want_region n w = let e : search_words n ≡ region_at n want = omega arith in ap (λ (k : ℕ). flags n (drop k w)) e

pub lacking_want : (n : ℕ) (w : List ℕ) → lacking (want_in n w) (replicate n 0) ≡ ones (region_flags n want w)
lacking_want n w = rw (want_region n w, flags_test n (drop (region_at n want) w)) (lacking_ones (is_in (drop (region_at n want) w)) n)
