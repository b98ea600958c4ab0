-- Laws of sets as flags. Assumes nothing.
use Prim.Native.Nat.{ℕ, suc, ◌≤◌, ◌<◌, min, max}
use Rattle.std.proofs.Math.Nat.{zero-add}
use Rattle.std.proofs.Math.Decide.{dec_lt}
use Rattle.std.proofs.Common.{arith, ◌∙◌, ap}
use Rattle.std.specs.Prelude.{◌≡◌, ◌↔◌, Bool, true, false, length, get_or, replicate}
use Rattle.std.proofs.Math.Path.{refl, sym}
use Rattle.std.proofs.Math.Bool.{◌&&◌, ◌||◌, cond, and-true}
use mathlib.Core.List.{List, [], ◌∷◌, map, zip_with}
use Rattle.std.proofs.Math.ListN.{length-map, get_or-eq_default}
use Rattle.std.proofs.lemmas.List.{length-replicate, get_or-replicate}
use Rattle.std.proofs.Math.Seq.{ext_get_or}
use Rattle.model.specs.Lists.{up_to, filter, member}
use Rattle.theory.specs.Tests.{and, same_test}
use Rattle.theory.specs.Tests as tests
use Rattle.theory.specs.Members.{filter→, →filter, member→, →member, →up_to}
use Rattle.theory.specs.RangeLaws.{length-range, get_d_map_range}
use Rattle.bitset.specs.Bits.{is_in, flag, flags}
use Rattle.bitset.specs.Members.{members_of}
use Rattle.bitset.proofs.Ranks.{members_most}
use Rattle.crossing.specs.Sets.{test_flags, member_flags, either, both, ones}

-- The flags of the bits of words are those of the test whether a bit is set.
pub flags_test : (n : ℕ) (s : List ℕ) → flags n s ≡ test_flags (is_in s) n
unfolding flags flag test_flags
flags_test n s = refl

-- ---- one flag

one_where : (b : Bool) → ◌≡◌ {A = ℕ} (cond b 1 0) 1 → b ≡ true
one_where true e = refl
one_where false e = absurd (omega arith)

module _ (p : ℕ → Bool) (n : ℕ) where
  pub length_test_flags : length (test_flags p n) ≡ n
  unfolding test_flags
  length_test_flags = length-map (up_to n) (λ v. cond (p v) 1 0) ∙ length-range 0 n

  pub test_flag_at : (v : ℕ) → v < n → get_or (test_flags p n) v 0 ≡ cond (p v) 1 0
  unfolding test_flags
  test_flag_at v h = get_d_map_range (λ v. cond (p v) 1 0) 0 0 n v h ∙ rw zero-add

  pub test_flag : (v : ℕ) → (get_or (test_flags p n) v 0 ≡ 1) ↔ ((v < n) × (p v ≡ true))
  test_flag v = (found (dec_lt v n), λ h. test_flag_at v h.0 ∙ rw h.1)
    where
      found : Dec (v < n) → get_or (test_flags p n) v 0 ≡ 1 → (v < n) × (p v ≡ true)
      found (yes h) e = (h, one_where (p v) (sym (test_flag_at v h) ∙ e))
      found (no h) e = let z = get_or-eq_default (test_flags p n) 0 {n = v} (omega (arith, length_test_flags)) in absurd (omega arith)

-- Two tests that agree below n.
pub test_flags_same : (p q : ℕ → Bool) (n : ℕ) → ((v : ℕ) → v < n → p v ≡ q v) → test_flags p n ≡ test_flags q n
test_flags_same p q n h =
    ext_get_or 0 (test_flags p n) (test_flags q n) (length_test_flags p n ∙ sym (length_test_flags q n))
    (λ v l. let k : v < n = omega (arith, length_test_flags p n) in test_flag_at p n v k ∙ rw (h v k) (sym (test_flag_at q n v k)))

-- ---- sets together, by their tests

module _ (f : ℕ → ℕ → ℕ) (op : Bool → Bool → Bool) (agree : (b c : Bool) → f (cond b 1 0) (cond c 1 0) ≡ cond (op b c) 1 0) (p q : ℕ → Bool) where
  zip_tests : (l : List ℕ) → zip_with f (map (λ v. cond (p v) 1 0) l) (map (λ v. cond (q v) 1 0) l) ≡ map (λ v. cond (op (p v) (q v)) 1 0) l
  unfolding zip_with
  zip_tests [] = refl
  zip_tests (v ∷ l) = rw (agree (p v) (q v), zip_tests l)

max_or : (b c : Bool) → max (cond b 1 0) (cond c 1 0) ≡ cond (b || c) 1 0
max_or true true = refl
max_or true false = refl
max_or false true = refl
max_or false false = refl

min_and : (b c : Bool) → min (cond b 1 0) (cond c 1 0) ≡ cond (b && c) 1 0
min_and true true = refl
min_and true false = refl
min_and false true = refl
min_and false false = refl

module _ (p q : ℕ → Bool) (n : ℕ) where
  pub either_test : either (test_flags p n) (test_flags q n) ≡ test_flags (λ v. p v || q v) n
  unfolding either test_flags
  either_test = zip_tests max ◌||◌ max_or p q (up_to n)

  pub both_test : both (test_flags p n) (test_flags q n) ≡ test_flags (λ v. p v && q v) n
  unfolding both test_flags
  both_test = zip_tests min ◌&&◌ min_and p q (up_to n)

-- A set of words whose members are those of one set or the other, or of one and the other.
module _ (n : ℕ) (s a b : List ℕ) where
  pub flags_either : ((v : ℕ) → v < n → is_in s v ≡ is_in a v || is_in b v) → flags n s ≡ either (flags n a) (flags n b)
  flags_either h = rw (flags_test n s, flags_test n a, flags_test n b, either_test (is_in a) (is_in b) n) (test_flags_same _ _ n h)

  pub flags_both : ((v : ℕ) → v < n → is_in s v ≡ is_in a v && is_in b v) → flags n s ≡ both (flags n a) (flags n b)
  flags_both h = rw (flags_test n s, flags_test n a, flags_test n b, both_test (is_in a) (is_in b) n) (test_flags_same _ _ n h)

-- How many pass a test, and so the members: the ones among the flags of words are as many.
ones_map : (p : ℕ → Bool) (l : List ℕ) → ones (map (λ v. cond (p v) 1 0) l) ≡ length (filter p l)
unfolding ones filter
ones_map p [] = refl
ones_map p (v ∷ l) = step (p v) (ones_map p l)
  where
    step : (b : Bool) → ones (map (λ v. cond (p v) 1 0) l) ≡ length (filter p l)
        → ones (cond b 1 0 ∷ map (λ v. cond (p v) 1 0) l) ≡ length (cond b (v ∷ filter p l) (filter p l))
    step true e = ap suc e
    step false e = e

pub ones_members : (n : ℕ) (s : List ℕ) → ones (flags n s) ≡ length (members_of n s)
unfolding members_of test_flags
ones_members n s = ap ones (flags_test n s) ∙ ones_map (is_in s) (up_to n)

pub ones_most : (n : ℕ) (s : List ℕ) → ones (flags n s) ≤ n
ones_most n s = omega (arith, ones_members n s, members_most s n)

-- ---- the members of lists

pub member_filter : (p : ℕ → Bool) (l : List ℕ) (v : ℕ) → member v (filter p l) ≡ p v && member v l
member_filter p l v = same_test
    (λ h. let f = filter→ p l (member→ v (filter p l) h) in and f.1 (→member v l f.0))
    (λ h. let b = tests.both {b = p v} h in →member v (filter p l) (→filter p l (member→ v l b.1) b.0))

module _ (n : ℕ) where
  pub no_members : member_flags n [] ≡ replicate n 0
  unfolding member_flags member
  no_members = ext_get_or 0 (test_flags (λ v. false) n) (replicate n 0) (length_test_flags (λ v. false) n ∙ sym (length-replicate n 0))
      (λ v l. let k : v < n = omega (arith, length_test_flags (λ v. false) n) in test_flag_at (λ v. false) n v k ∙ sym (get_or-replicate {A = ℕ} n v 0 0 k))

  -- Those of the numbers below n that pass a test: as a list, and how many.
  pub filter_flags : (p : ℕ → Bool) → member_flags n (filter p (up_to n)) ≡ test_flags p n
  unfolding member_flags
  filter_flags p = test_flags_same _ _ n (λ v k. member_filter p (up_to n) v ∙ rw (→member v (up_to n) (→up_to n v k)) (and-true (p v)))
