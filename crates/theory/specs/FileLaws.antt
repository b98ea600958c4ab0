-- Reading back what `file` writes: each body of a file is the body that went in. Assumes nothing.
use Rattle.std.specs.Prelude.{ℕ, zero, suc, ◌+◌, ◌*◌, ◌/◌, ◌%◌, ◌≤◌, ◌<◌, ◌≡◌, refl, List, [], ◌∷◌, ◌++◌, get_or, take}
use Rattle.std.proofs.Common.{add_assoc, sym, ◌∙◌, append_assoc, length-append, get_or-append-add}
use native.Mathlib.Omega.{arith}
use Rattle.std.proofs.Math.Path.{ap}
use Rattle.std.proofs.Math.ListN.{length, drop}
use Rattle.std.proofs.Math.Seq.{drop-append-add, take-append_seam}
use Rattle.model.specs.Lists.{concat}
use Rattle.model.specs.Bytes.{Bytes, word16, word32, word64, bytes16, bytes32, bytes64, cut}
use Rattle.model.specs.Contents.{entry, entry_at, body_part, body, entries, file, head_size, contents_entry_size}

-- ---- numbers

pub word16_append : (xs ys : Bytes) (n : ℕ) → word16 (xs ++ ys) (length xs + n) ≡ word16 ys n
unfolding word16
word16_append xs ys n = rw (get_or-append-add xs ys n 0, add_assoc, get_or-append-add xs ys (n + 1) 0)

pub word32_append : (xs ys : Bytes) (n : ℕ) → word32 (xs ++ ys) (length xs + n) ≡ word32 ys n
unfolding word32
word32_append xs ys n = rw (word16_append xs ys n, add_assoc, word16_append xs ys (n + 2))

-- A number that was written is read.
pub word16_read : (n : ℕ) (l : Bytes) → n < 65536 → word16 (bytes16 n ++ l) 0 ≡ n
unfolding word16 bytes16
word16_read n l h = omega arith

pub word32_read : (n : ℕ) (l : Bytes) → n < 4294967296 → word32 (bytes32 n ++ l) 0 ≡ n
unfolding word32 word16 bytes32 bytes16
word32_read n l h = omega arith

-- Of a number that is longer the low 32 bits are written, and both halves of 64 bits are read.
low_parts : (r q : ℕ) → ((r + 4294967296 * q) % 256 ≡ r % 256) × ((r + 4294967296 * q) / 256 ≡ r / 256 + 16777216 * q)
    × ((r + 4294967296 * q) / 65536 ≡ r / 65536 + 65536 * q)
low_parts r q = (omega arith, omega arith, omega arith)

pub bytes_low : (n : ℕ) → bytes32 (n % 4294967296) ≡ bytes32 n
unfolding bytes32 bytes16
bytes_low n = λ i. a i ∷ b i ∷ c i ∷ d i ∷ []
  where
    r : ℕ
    r = n % 4294967296

    q : ℕ
    q = n / 4294967296

    whole : n ≡ r + 4294967296 * q
    whole = omega arith

    at_256 : n / 256 ≡ r / 256 + 16777216 * q
    at_256 = ap (λ (k : ℕ). k / 256) whole ∙ (low_parts r q).1

    at_65536 : n / 65536 ≡ r / 65536 + 65536 * q
    at_65536 = ap (λ (k : ℕ). k / 65536) whole ∙ (low_parts r q).2

    a : r % 256 ≡ n % 256
    a = sym (ap (λ (k : ℕ). k % 256) whole ∙ (low_parts r q).0)

    b : r / 256 % 256 ≡ n / 256 % 256
    b = omega (arith, at_256)

    c : r / 65536 % 256 ≡ n / 65536 % 256
    c = omega (arith, at_65536)

    d : r / 65536 / 256 % 256 ≡ n / 65536 / 256 % 256
    d = omega (arith, at_65536)

word32_low : (n : ℕ) (l : Bytes) → word32 (bytes32 n ++ l) 0 ≡ n % 4294967296
word32_low n l = rw (← bytes_low n) (word32_read (n % 4294967296) l (omega arith))

pub length_32 : (n : ℕ) → length (bytes32 n) ≡ 4
unfolding bytes32 bytes16
length_32 n = refl

pub word64_append : (xs ys : Bytes) (n : ℕ) → word64 (xs ++ ys) (length xs + n) ≡ word64 ys n
unfolding word64
word64_append xs ys n = rw (word32_append xs ys n, add_assoc, word32_append xs ys (n + 4))

pub word64_read : (n : ℕ) (l : Bytes) → n < 4294967296 * 4294967296 → word64 (bytes64 n ++ l) 0 ≡ n
unfolding word64 bytes64
word64_read n l h = omega (arith, low, high)
  where
    rest : Bytes
    rest = bytes32 (n / 4294967296) ++ l

    halves : (bytes32 n ++ bytes32 (n / 4294967296)) ++ l ≡ bytes32 n ++ rest
    halves = append_assoc (bytes32 n) (bytes32 (n / 4294967296)) l

    low : word32 ((bytes32 n ++ bytes32 (n / 4294967296)) ++ l) 0 ≡ n % 4294967296
    low = ap (λ (b : Bytes). word32 b 0) halves ∙ word32_low n rest

    high : word32 ((bytes32 n ++ bytes32 (n / 4294967296)) ++ l) (0 + 4) ≡ n / 4294967296
    high =
        let e : 0 + 4 ≡ length (bytes32 n) + 0 = omega (arith, length_32 n) in
        rw (halves, e) (word32_append (bytes32 n) rest 0 ∙ word32_read (n / 4294967296) l (omega arith))

-- ---- the contents

-- Where body j starts, after a start at `at`.
abbrev pub start_of : ℕ → List Bytes → ℕ → ℕ
start_of at bs j = at + length (concat (take j bs))

-- Nine bytes before.
unfoldable pub nine : (k : ℕ) (a s : ℕ) → Bytes
nine k a s = suc k ∷ (bytes32 a ++ bytes32 s)

pub entries_step : (k at : ℕ) (b : Bytes) (bs : List Bytes) (l : Bytes) → entries k at (b ∷ bs) ++ l ≡ nine k at (length b) ++
    (entries (suc k) (at + length b) bs ++ l)
unfolding entries nine bytes32 bytes16
entries_step k at b bs l = refl

nine_skip : (k a s j m : ℕ) → contents_entry_size * suc j + m ≡ length (nine k a s) + (contents_entry_size * j + m)
unfolding nine bytes32 bytes16
nine_skip k a s j m = omega arith

skip : (k at j m : ℕ) (b : Bytes) (bs : List Bytes) (l : Bytes) → word32 (entries k at (b ∷ bs) ++ l) (contents_entry_size * suc j + m) ≡ word32
    (entries (suc k) (at + length b) bs ++ l) (contents_entry_size * j + m)
skip k at j m b bs l = rw (entries_step k at b bs l, nine_skip k at (length b) j m) (word32_append (nine k at (length b)) _ (contents_entry_size * j + m))

pub start_step : (at j : ℕ) (b : Bytes) (bs : List Bytes) → start_of (at + length b) bs j ≡ start_of at (b ∷ bs) (suc j)
unfolding concat
start_step at j b bs = omega (arith, length-append b (concat (take j bs)))

entry_offset : (k at j : ℕ) (bs : List Bytes) (l : Bytes) → j < length bs → start_of at bs j < 4294967296
    → word32 (entries k at bs ++ l) (contents_entry_size * j + 1) ≡ start_of at bs j
entry_offset k at j [] l h s = absurd (omega arith)
entry_offset k at zero (b ∷ bs) l h s = unfold entries bytes32 bytes16 word32 word16 concat in omega arith
entry_offset k at (suc j) (b ∷ bs) l h s =
    skip k at j 1 b bs l ∙ entry_offset (suc k) (at + length b) j bs l (omega arith) (omega (arith, start_step at j b bs)) ∙ start_step at j b bs

entry_size : (k at j : ℕ) (bs : List Bytes) (l : Bytes) → j < length bs → length (get_or bs j []) < 4294967296
    → word32 (entries k at bs ++ l) (contents_entry_size * j + 5) ≡ length (get_or bs j [])
entry_size k at j [] l h s = absurd (omega arith)
entry_size k at zero (b ∷ bs) l h s = unfold entries bytes32 bytes16 word32 word16 in omega arith
entry_size k at (suc j) (b ∷ bs) l h s = skip k at j 5 b bs l ∙ entry_size (suc k) (at + length b) j bs l (omega arith) s

length_entries : (k at : ℕ) (bs : List Bytes) → length (entries k at bs) ≡ contents_entry_size * length bs
unfolding entries bytes32 bytes16
length_entries k at [] = refl
length_entries k at (b ∷ bs) = omega (arith, length_entries (suc k) (at + length b) bs)

-- ---- the bodies

pub drop_concat : (j : ℕ) (bs : List Bytes) → j < length bs → drop (length (concat (take j bs))) (concat bs) ≡ get_or bs j [] ++ concat (drop (suc j) bs)
unfolding concat
drop_concat j [] h = absurd (omega arith)
drop_concat zero (b ∷ bs) h = refl
drop_concat (suc j) (b ∷ bs) h = rw (length-append b (concat (take j bs)), drop-append-add b (concat bs) (length (concat (take j bs))))
    (drop_concat j bs (omega arith))

pub concat_bound : (j : ℕ) (bs : List Bytes) → j < length bs → length (concat (take j bs)) + length (get_or bs j []) ≤ length (concat bs)
unfolding concat
concat_bound j [] h = absurd (omega arith)
concat_bound zero (b ∷ bs) h = omega (arith, length-append b (concat bs))
concat_bound (suc j) (b ∷ bs) h = omega (arith, concat_bound j bs (omega arith), length-append b (concat (take j bs)), length-append b (concat bs))

pub length_file : (edition : ℕ) (bs : List Bytes) → length (file edition bs) ≡ entry_at (length bs) + length (concat bs)
unfolding file entry_at
length_file edition bs = omega (arith, length-append (entries 0 (head_size (length bs)) bs) (concat bs), length_entries 0 (head_size (length bs)) bs)

module _ (edition : ℕ) (bs : List Bytes) (j : ℕ) (h : j < length bs) (small : length (file edition bs) < 4294967296) where
  bound : start_of (entry_at (length bs)) bs j + length (get_or bs j []) < 4294967296
  bound = omega (arith, small, length_file edition bs, concat_bound j bs h)

  -- the file from its third byte on
  pub file_offset : (entry (file edition bs) j).offset ≡ start_of (entry_at (length bs)) bs j
  unfolding entry file
  file_offset =
      let e : entry_at j + 1 ≡ 2 + (contents_entry_size * j + 1) = unfold entry_at in omega arith in
      rw e (word32_append (edition ∷ (length bs ∷ [])) (entries 0 (entry_at (length bs)) bs ++ concat bs) (contents_entry_size * j + 1)
      ∙ entry_offset 0 (entry_at (length bs)) j bs (concat bs) h (omega (arith, bound)))

  pub file_size : (entry (file edition bs) j).size ≡ length (get_or bs j [])
  unfolding entry file
  file_size =
      let e : entry_at j + 5 ≡ 2 + (contents_entry_size * j + 5) = unfold entry_at in omega arith in
      rw e (word32_append (edition ∷ (length bs ∷ [])) (entries 0 (entry_at (length bs)) bs ++ concat bs) (contents_entry_size * j + 5)
      ∙ entry_size 0 (entry_at (length bs)) j bs (concat bs) h (omega (arith, bound)))

  head : Bytes
  head = edition ∷ (length bs ∷ entries 0 (entry_at (length bs)) bs)

  length_head : entry_at (length bs) ≡ length head
  unfolding head entry_at
  length_head = omega (arith, length_entries 0 (head_size (length bs)) bs)

  from_body : drop (start_of (entry_at (length bs)) bs j) (file edition bs) ≡ get_or bs j [] ++ concat (drop (suc j) bs)
  unfolding file head
  from_body =
      ap (λ (m : ℕ). drop (m + length (concat (take j bs))) (file edition bs)) length_head ∙
      (drop-append-add head (concat bs) (length (concat (take j bs))) ∙ drop_concat j bs h)

  pub body_file : body (file edition bs) j ≡ get_or bs j []
  unfolding body cut body_part
  body_file = rw (file_offset, file_size, from_body) (take-append_seam (get_or bs j []) (concat (drop (suc j) bs)))
