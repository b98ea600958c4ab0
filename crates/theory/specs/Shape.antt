-- A built oracle is well-shaped: it breaks none of rules 1 to 11. Assumes nothing.
use Prim.Native.Nat.{ℕ, zero, suc, ◌+◌, ◌*◌, ◌≤◌, ◌<◌}
use native.Mathlib.Omega.{arith}
use Rattle.std.proofs.Common.{add-zero, sym, ◌∙◌, subst, inl, inr, true≢false, length-append, get_or-append-add}
use Rattle.std.proofs.Math.Nat.{zero-add}
use Rattle.std.specs.Prelude.{◌≡◌, ◌⊎◌, Bool, true, false, not, ◌&&◌, ◌||◌, cond, get_or, eqb, ltb}
use Rattle.std.proofs.Math.Path.{refl, ap}
use mathlib.Core.List.Memᴰ
use mathlib.Core.List.{List, [], ◌∷◌, ◌++◌, map, Memᴰ}
use Rattle.std.proofs.Math.ListN.{length}
use borrow.Author.Tests.{lt-ltb, le-ltb, eq-eqb, ltb-true, eqb-true}
use Rattle.model.specs.Lists.{Part, gapless, any, all, filter, rising, up_to, range, index_of, concat}
use Rattle.model.specs.Bytes.{Bytes, byte, bytes16, bytes32}
use Rattle.model.specs.Contents.{entry, entry_at, entries, file, body_part, contents_broken, of_its_kind, bodies_broken, head_size, contents_entry_size}
use Rattle.model.specs.Distance.{Distance, unreachable, finite}
use Rattle.model.specs.Pair.{seconds_of, hops_of}
use Rattle.model.specs.Oracle.{no_walk, max_value, max_hops, decoded, value, value_key, key_broken, value_broken}
use Rattle.theory.specs.FileLaws.{nine, entries_step, start_of, start_step, file_offset, file_size, length_file}
use Rattle.theory.specs.Tests.{both, and, true-eqb}
use Rattle.theory.specs.Members.{filter→, range→}
use Rattle.theory.specs.Least.{apart}

-- ---- parts without gaps
pub gapless_parts : (at s : ℕ) (p : ℕ → Part) (bs : List Bytes)
    → ((j : ℕ) → j < length bs → (p (s + j)).start ≡ start_of at bs j) → ((j : ℕ) → j < length bs → (p (s + j)).size ≡ length (get_or bs j []))
    → gapless at (map p (range s (length bs))) (at + length (concat bs)) ≡ true
unfolding gapless range concat
gapless_parts at s p [] hs hz = eq-eqb at (at + 0) (omega arith)
gapless_parts at s p (b ∷ bs) hs hz =
    let start : (p s).start ≡ at = rw add-zero at (hs 0 (omega arith)) ∙ omega arith in
    let size : (p s).size ≡ length b = rw add-zero at (hz 0 (omega arith)) in
    let shift : (j : ℕ) → suc s + j ≡ s + suc j = λ j. omega arith in
    let rest = gapless_parts (at + length b) (suc s) p bs (λ j h. ap (λ k. (p k).start) (shift j) ∙ (hs (suc j) (omega arith) ∙ sym (start_step at j b bs)))
    (λ j h. ap (λ k. (p k).size) (shift j) ∙ hz (suc j) (omega arith)) in
    let e : at + length b + length (concat bs) ≡ at + length (b ++ concat bs) = omega (arith, length-append b (concat bs)) in
    and (eq-eqb _ _ start) (rw size (subst (λ (m : ℕ). gapless (at + length b) (map p (range (suc s) (length bs))) m ≡ true) e rest))

-- ---- kinds
kind_read : (k at j : ℕ) (bs : List Bytes) (l : Bytes) → j < length bs → byte (entries k at bs ++ l) (contents_entry_size * j) ≡ suc (k + j)
kind_read k at j [] l h = absurd (omega arith)
kind_read k at zero (b ∷ bs) l h = unfold entries in omega arith
kind_read k at (suc j) (b ∷ bs) l h =
    let e : contents_entry_size * suc j ≡ length (nine k at (length b)) + contents_entry_size * j = unfold nine bytes32 bytes16 in omega arith in
    let f : suc (suc k + j) ≡ suc (k + suc j) = omega arith in
    rw (entries_step k at b bs l, e) (get_or-append-add (nine k at (length b)) (entries (suc k) (at + length b) bs ++ l) (contents_entry_size * j) 0
    ∙ (kind_read (suc k) (at + length b) j bs l (omega arith) ∙ f))

-- ---- a value that decodes to a distance within bounds is in range
abbrev pub Bounded : Distance → Type 0
Bounded unreachable = Unit {0}
Bounded (finite k) = (seconds_of k ≤ max_value) × (hops_of k ≤ max_hops)

pub value_fine : (b : Bytes) (p : ℕ) (x : Distance) → value b p ≡ x → Bounded x → value_broken b p ≡ false
unfolding value decoded value_broken key_broken
value_fine b p x e h = step (eqb (value_key b p) no_walk) (value_key b p) x e h
  where
    step : (c : Bool) (v : ℕ) (x : Distance) → cond c unreachable (finite v) ≡ x → Bounded x
        → not c && (ltb max_value (seconds_of v) || ltb max_hops (hops_of v)) ≡ false
    step true v x e h = refl
    step false v unreachable e h = absurd (apart (sym e))
    step false v (finite n) e h =
        let q : v ≡ n = cc in
        rw (le-ltb max_value (seconds_of v) (omega (arith, h.0)), le-ltb max_hops (hops_of v) (omega (arith, h.1)))

-- ---- rising lists
pub rising_range : (s n : ℕ) → rising (range s n) ≡ true
unfolding rising range
rising_range s zero = refl
rising_range s (suc zero) = refl
rising_range s (suc (suc n)) = and (lt-ltb s (suc s) (omega arith)) (rising_range (suc s) (suc n))

-- a list whose numbers are all above x
rising_cons : (x : ℕ) (l : List ℕ) → ((y : ℕ) → Memᴰ y l → x < y) → rising l ≡ true → rising (x ∷ l) ≡ true
unfolding rising
rising_cons x [] h r = refl
rising_cons x (y ∷ l) h r = and (lt-ltb x y (h y (Memᴰ.head refl))) r

-- each number of a rising list is above the first
pub rising_above : (x : ℕ) (l : List ℕ) → rising (x ∷ l) ≡ true → (y : ℕ) → Memᴰ y l → x < y
unfolding rising
rising_above x [] h y m = absurd (Memᴰ.not-nil m)
rising_above x (z ∷ l) h y m = step (Memᴰ.cases_cons m) (λ k. rising_above z l p.1 y k)
  where
    p : (ltb x z ≡ true) × (rising (z ∷ l) ≡ true)
    p = both {b = ltb x z} h

    q : x < z
    q = ltb-true x z p.0

    step : (y ≡ z) ⊎ Memᴰ y l → (Memᴰ y l → z < y) → x < y
    step (inl e) rest = omega (arith, q)
    step (inr k) rest = omega (arith, q, rest k)

pub rising_tail : (x : ℕ) (l : List ℕ) → rising (x ∷ l) ≡ true → rising l ≡ true
unfolding rising
rising_tail x [] h = refl
rising_tail x (y ∷ l) h = (both {b = ltb x y} h).1

pub rising_filter : (p : ℕ → Bool) (l : List ℕ) → rising l ≡ true → rising (filter p l) ≡ true
unfolding filter
rising_filter p [] h = unfold rising in refl
rising_filter p (x ∷ l) h = step (p x) (rising_filter p l (rising_tail x l h))
  where
    step : (b : Bool) → rising (filter p l) ≡ true → rising (cond b (x ∷ filter p l) (filter p l)) ≡ true
    step true r = rising_cons x (filter p l) (λ y m. rising_above x l h y (filter→ p l m).0) r
    step false r = r

-- the indexes of a rising list in a rising list rise
index_less : (t : List ℕ) → rising t ≡ true → (x y : ℕ) → Memᴰ x t → Memᴰ y t → x < y → index_of x t < index_of y t
unfolding index_of
index_less [] r x y mx my h = absurd (Memᴰ.not-nil mx)
index_less (z ∷ t) r x y mx my h = step (eqb x z) (eqb y z) refl refl (Memᴰ.cases_cons mx) (Memᴰ.cases_cons my)
    (λ a b. index_less t (rising_tail z t r) x y a b h)
  where
    step : (p q : Bool) → eqb x z ≡ p → eqb y z ≡ q → (x ≡ z) ⊎ Memᴰ x t → (y ≡ z) ⊎ Memᴰ y t
        → (Memᴰ x t → Memᴰ y t → index_of x t < index_of y t)
        → cond p 0 (suc (index_of x t)) < cond q 0 (suc (index_of y t))
    step true true a b c d rest = let e : x ≡ z = eqb-true x z a in let f : y ≡ z = eqb-true y z b in absurd (omega arith)
    step true false a b c d rest = omega arith
    step false q a b (inl e) d rest = absurd (true≢false (sym (true-eqb e) ∙ a))
    step false true a b (inr m) d rest = let f : y ≡ z = eqb-true y z b in absurd (omega (arith, rising_above z t r x m))
    step false false a b (inr m) (inl e) rest = absurd (true≢false (sym (true-eqb e) ∙ b))
    step false false a b (inr m) (inr n) rest = omega (arith, rest m n)

pub rising_index : (t l : List ℕ) → rising t ≡ true → rising l ≡ true → ((x : ℕ) → Memᴰ x l → Memᴰ x t) → rising (map (λ a. index_of a t) l) ≡ true
unfolding rising
rising_index t [] r h k = refl
rising_index t (x ∷ []) r h k = refl
rising_index t (x ∷ (y ∷ l)) r h k =
    let p = both {b = ltb x y} h in
    and (lt-ltb (index_of x t) (index_of y t) (index_less t r x y (k x (Memᴰ.head refl)) (k y (Memᴰ.tail (Memᴰ.head refl))) (ltb-true x y p.0)))
    (rising_index t (y ∷ l) r p.1 (λ z m. k z (Memᴰ.tail m)))

-- ---- no element passes a test
pub any_none : {A : Type 0} (p : A → Bool) (l : List A) → ((x : A) → Memᴰ x l → p x ≡ false) → any p l ≡ false
unfolding any
any_none p [] h = refl
any_none p (x ∷ l) h = rw (h x (Memᴰ.head refl)) (any_none p l (λ y m. h y (Memᴰ.tail m)))

pub all_of : (p : ℕ → Bool) (l : List ℕ) → ((x : ℕ) → Memᴰ x l → p x ≡ true) → all p l ≡ true
unfolding all
all_of p [] h = refl
all_of p (x ∷ l) h = rw (h x (Memᴰ.head refl)) (all_of p l (λ y m. h y (Memᴰ.tail m)))

-- ---- rules 1 and 2 of what `file` writes
module _ (edition : ℕ) (bs : List Bytes) (small : length (file edition bs) < 4294967296) where
  pub contents_fine : contents_broken edition (length bs) (file edition bs) ≡ false
  unfolding contents_broken
  contents_fine =
      let long : entry_at (length bs) ≤ length (file edition bs) = omega (arith, length_file edition bs) in
      let two : 2 ≤ length (file edition bs) = unfold file in omega arith in
      rw (le-ltb (length (file edition bs)) 2 two, le-ltb (length (file edition bs)) (entry_at (length bs)) long)
      (unfold file in rw (eq-eqb edition edition refl, eq-eqb (length bs) (length bs) refl))

  entry_at_law : (k : ℕ) → entry_at k ≡ head_size k
  unfolding entry_at
  entry_at_law k = refl

  kind_byte : (k : ℕ) → k < length bs → byte (file edition bs) (entry_at k) ≡ k + 1
  unfolding file
  kind_byte k h =
      let f : suc (0 + k) ≡ k + 1 = omega arith in
      ap (byte (file edition bs)) (entry_at_law k) ∙
      (get_or-append-add (edition ∷ (length bs ∷ [])) (entries 0 (entry_at (length bs)) bs ++ concat bs) (contents_entry_size * k) 0
      ∙ (kind_read 0 (entry_at (length bs)) k bs (concat bs) h ∙ f))

  kind_fine : (k : ℕ) → k < length bs → of_its_kind (file edition bs) k ≡ true
  unfolding of_its_kind entry
  kind_fine k h = eq-eqb (byte (file edition bs) (entry_at k)) (k + 1) (kind_byte k h)

  pub bodies_fine : bodies_broken (length bs) (file edition bs) ≡ false
  unfolding bodies_broken
  bodies_fine =
      let kinds = all_of (of_its_kind (file edition bs)) (up_to (length bs)) (λ k m. kind_fine k (omega (arith, range→ 0 (length bs) k m))) in
      let parts = gapless_parts (entry_at (length bs)) 0 (body_part (file edition bs)) bs
      (λ j h. unfold body_part in rw zero-add (file_offset edition bs j h small)) (λ j h. unfold body_part in rw zero-add (file_size edition bs j h small)) in
      rw (kinds, length_file edition bs, parts)
