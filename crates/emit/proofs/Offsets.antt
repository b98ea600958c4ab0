-- The starts of the lists and the entries of the contents: each record holds where the sizes before it end. Assumes nothing.
use Prim.Native.Nat.{ℕ, suc, ◌+◌, ◌*◌, ◌<◌, ◌≤◌}
use native.Mathlib.Omega.{arith}
use native.Mathlib.Numerals.{add-one}
use mathlib.Core.Path.{◌≡◌, refl, ◌∙◌}
use mathlib.Core.List.{List, [], ◌∷◌, map}
use lib.ListN.{length, get_or, drop, set, drop_of_length-le}
use lib.Seq.{drop-cons, sets-eq}
use Rattle.model.specs.Lists.{total}
use Rattle.model.specs.Bytes.{Bytes, bytes16, bytes32, splice}
use Rattle.model.specs.Contents.{contents_entry_size, entry_at}
use Rattle.model.specs.Network.{max_nodes}
use Rattle.model.specs.Oracle.{start_size, list_size}
use Rattle.theory.specs.RangeLaws.{rest, rest_all, rest_step, rest_end}
use Rattle.theory.specs.FileLaws.{nine}
use Rattle.words.specs.Halves.{half}
use Rattle.emit.specs.Parts.{entries_of, head_bytes, starts_of, list_sizes}
use Rattle.emit.specs.Records.{Wrote}
use Rattle.emit.proofs.Writing.{Then}
use Rattle.theory.specs.Splices.{splice_byte, splice_then}

-- ---- the starts

module _ (counts : List ℕ) (n : ℕ) where
  -- The starts from list v on, which starts at `start`.
  abbrev pub starts_from : ℕ → ℕ → Bytes
  starts_from start v = starts_of start (map (λ u. list_size (half counts u)) (rest v n))

  -- The latest start of list v.
  abbrev pub latest : ℕ → ℕ
  latest v = start_size * n + list_size max_nodes * v

  pub starts_all : starts_of (start_size * n) (list_sizes n counts) ≡ starts_from (start_size * n) 0
  unfolding list_sizes
  starts_all = rw (← rest_all n)

  module _ (v start size : ℕ) (e : size ≡ list_size (half counts v)) where
    pub starts_step : v < n → Then (starts_from start v) (bytes32 start) (starts_from (start + size) (v + 1))
    unfolding starts_of
    starts_step h = record { is = rw (rest_step v n h, e) }

    pub start_latest : half counts v ≤ max_nodes → start ≤ latest v → start + size ≤ latest (v + 1)
    start_latest h l = omega arith

  pub starts_end : (v start : ℕ) → n ≤ v → starts_from start v ≡ []
  unfolding starts_of
  starts_end v start h = rw (rest_end v n h)

pub start_wrote : (old new : Bytes) (v start : ℕ) → new ≡ splice (start_size * v) (bytes32 start) old
    → Wrote old (start_size * v) (bytes32 start) (start_size * (v + 1)) new
unfolding bytes32 bytes16
start_wrote old new v start e = record { ends = omega arith; spliced = e }

-- ---- the head

-- The kind, the offset and the size, one after the other.
pub contents_written : (at k offset size : ℕ) (old mid new : Bytes) → at + contents_entry_size ≤ length old
    → mid ≡ splice (at + 1) (bytes32 offset) (set old at (k + 1))
    → new ≡ splice (at + 5) (bytes32 size) mid → new ≡ splice at (nine k offset size) old
unfolding nine bytes32 bytes16
contents_written at k offset size old mid new h p q =
    let e : at + 5 ≡ at + length (suc k ∷ bytes32 offset) = omega arith in
    q ∙
    rw (p, add-one k, splice_byte old at (suc k) (omega arith), splice_then old at (suc k ∷ []) (omega arith) (bytes32 offset), e)
    (splice_then old at (suc k ∷ bytes32 offset) (omega arith) (bytes32 size))

module _ (sizes : List ℕ) (k offset size : ℕ) (h : k < length sizes) (e : size ≡ get_or sizes k 0) where
  from : drop k sizes ≡ size ∷ drop (k + 1) sizes
  from = rw (add-one k, e) (drop-cons sizes k 0 h)

  pub contents_step : Then (entries_of k offset (drop k sizes)) (nine k offset size) (entries_of (k + 1) (offset + size) (drop (k + 1) sizes))
  unfolding entries_of
  contents_step = record { is = rw (from, add-one k) }

  pub total_step : total (drop k sizes) ≡ size + total (drop (k + 1) sizes)
  unfolding total
  total_step = rw from

pub contents_end : (sizes : List ℕ) (k offset : ℕ) → length sizes ≤ k → entries_of k offset (drop k sizes) ≡ []
unfolding entries_of
contents_end sizes k offset h = rw (drop_of_length-le sizes h)

pub head_start : (edition : ℕ) (sizes : List ℕ)
    → Then (head_bytes edition sizes) (edition ∷ length sizes ∷ []) (entries_of 0 (entry_at (length sizes)) sizes)
unfolding head_bytes
head_start edition sizes = record { is = refl }

pub head_wrote : (old : Bytes) (edition entries : ℕ) → 2 ≤ length old → Wrote old 0 (edition ∷ entries ∷ []) (entry_at 0) (set (set old 0 edition) 1 entries)
unfolding splice entry_at
head_wrote old edition entries h = record { ends = refl; spliced = sets-eq (edition ∷ entries ∷ []) old 0 (omega arith) }

pub contents_wrote : (old new : Bytes) (k offset size : ℕ) → new ≡ splice (entry_at k) (nine k offset size) old
    → Wrote old (entry_at k) (nine k offset size) (entry_at (k + 1)) new
unfolding nine entry_at bytes32 bytes16
contents_wrote old new k offset size e = record { ends = omega arith; spliced = e }
