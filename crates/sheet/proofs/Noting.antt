-- Spans: a word with a block more, the lines noted one after the other, and the spans in the working words. Assumes nothing.
use Prim.Native.Nat.{ℕ, suc, ◌+◌, ◌-◌, ◌*◌, ◌/◌, ◌%◌, ◌≤◌, ◌<◌}
use native.Mathlib.Omega.{arith}
use native.Mathlib.Nat.{mul-le-mul, zero-mul, mod-lt, div-mul-le_self, div-lt_iff_lt-mul}
use native.Mathlib.Decide.{dec_lt, ℕ_discrete}
use mathlib.Core.Path.{◌≡◌, refl, sym, ◌∙◌, ap, subst}
use mathlib.Core.List.{List, []}
use lib.ListN.{length, get_or, set, take, drop, length-set, length-drop}
use lib.Seq.{get_or-set_same, get_or-set_other, get_or-take, get_or-drop, length-take-le}
use borrow.Rule.Slice.PartMut.{mid_of, put_mid}
use Rattle.model.specs.Bytes.{Bytes}
use Rattle.model.specs.Rules.{work_words}
use Rattle.words.specs.Regions.{spans_at, span_count, spans_in, index_at}
use Rattle.words.specs.Frames.{Enough, KeptFrom, OnlyIn}
use Rattle.words.proofs.Windows.{put_only, put_part, room_left, index_fits}
use Rattle.sheet.specs.Sheet.{line, line_count}
use Rattle.sheet.specs.Spans.{block_lines, span_of, InSpan, Spanned, SpannedTo, SpannedIn, Widened}

-- ---- a word

-- The number of a line's block has room.
block_small : (m k : ℕ) → k < m → k / (m / 65535 + 1) < 65535
block_small m k h = (div-lt_iff_lt-mul {k = m / 65535 + 1} {x = k} {y = 65535} (omega arith)).1 (omega arith)

pub small : (lines : Bytes) (size k : ℕ) → size ≡ block_lines lines → k < line_count lines → k / size < 65535
unfolding block_lines
small lines size k e h = rw e (block_small (line_count lines) k h)

module _ (s x q r : ℕ) (w : Widened x q r) where
  -- The lines that were in the span stay in it ..
  widen_old : (k : ℕ) → InSpan s x k → InSpan s r k
  widen_old k (p, l) = pick (dec_lt 0 x)
    where
      pick : Dec (0 < x) → InSpan s r k
      pick (yes z) =
          let f = mul-le-mul {n₁ = r / 65536} {m₁ = s} {n₂ = x / 65536} {m₂ = s} (w.sooner z) (omega arith) in
          let e = mul-le-mul {n₁ = x % 65536} {m₁ = s} {n₂ = r % 65536} {m₂ = s} w.later (omega arith) in
          (omega arith, omega arith)
      pick (no z) =
          let e = mul-le-mul {n₁ = x % 65536} {m₁ = s} {n₂ = 0} {m₂ = s} (omega arith) (omega arith) in
          absurd (omega (arith, zero-mul s))

  -- .. and those of block q are in it.
  widen_new : (k : ℕ) → 0 < s → q ≡ k / s → InSpan s r k
  widen_new k h e =
      let f = mul-le-mul {n₁ = r / 65536} {m₁ = s} {n₂ = q} {m₂ = s} w.first (omega arith) in
      let g = mul-le-mul {n₁ = suc q} {m₁ = s} {n₂ = r % 65536} {m₂ = s} (omega (arith, w.last)) (omega arith) in
      let a : q * s ≤ k = rw e (div-mul-le_self k s) in
      let b : k < suc q * s = (div-lt_iff_lt-mul {k = s} {x = k} {y = suc q} h).0 (omega arith) in
      (omega arith, omega arith)

-- ---- the lines one after the other
pub noted_none : (lines : Bytes) (spans : List ℕ) → SpannedTo lines 0 spans
noted_none lines spans = record { each = λ k h. absurd (omega arith) }

pub noted_all : (lines : Bytes) (m : ℕ) (spans : List ℕ) → line_count lines ≤ m → SpannedTo lines m spans → Spanned lines spans
noted_all lines m spans e t = record { each = λ k h. t.each k (omega arith) }

module _ (lines : Bytes) (k size e j r : ℕ) (spans : List ℕ) (some : 0 < length spans) (p : e ≡ (line lines k).edge) (q : j ≡ e % length spans)
    (z : size ≡ block_lines lines) (w : Widened (get_or spans j 0) (k / size) r) (t : SpannedTo lines k spans) where
  abbrev new : List ℕ
  new = set spans j r

  at_new : (i : ℕ) → span_of new i ≡ get_or new (i % length spans) 0
  unfolding span_of
  at_new i = rw (length-set spans j r)

  j_in : j < length spans
  j_in = omega (arith, mod-lt e {m = length spans} some)

  block_some : 0 < block_lines lines
  unfolding block_lines
  block_some = omega arith

  own : InSpan (block_lines lines) (span_of new (line lines k).edge) k
  own =
      let g : span_of new (line lines k).edge ≡ r = at_new (line lines k).edge
      ∙ (ap (λ (i : ℕ). get_or new i 0) (sym (q ∙ ap (λ (i : ℕ). i % length spans) p)) ∙ get_or-set_same spans j r 0 j_in) in
      rw g (widen_new (block_lines lines) (get_or spans j 0) (k / size) r w k block_some (rw z))

  older : (i : ℕ) → i < k → InSpan (block_lines lines) (span_of new (line lines i).edge) i
  unfolding span_of
  older i h = rw (length-set spans j r) (pick (ℕ_discrete ((line lines i).edge % length spans) j))
    where
      v : ℕ
      v = (line lines i).edge % length spans

      pick : Dec (v ≡ j) → InSpan (block_lines lines) (get_or new v 0) i
      pick (yes d) =
          let was : InSpan (block_lines lines) (get_or spans j 0) i = subst (λ (u : ℕ). InSpan (block_lines lines) (get_or spans u 0) i) d (t.each i h) in
          let g : get_or new v 0 ≡ r = ap (λ (u : ℕ). get_or new u 0) d ∙ get_or-set_same spans j r 0 j_in in
          rw g (widen_old (block_lines lines) (get_or spans j 0) (k / size) r w i was)
      pick (no d) = rw (get_or-set_other spans j v r 0 d) (t.each i h)

  pub noted_next : SpannedTo lines (k + 1) new
  noted_next = record { each = λ i h. pick i h (ℕ_discrete i k) }
    where
      pick : (i : ℕ) → i < k + 1 → Dec (i ≡ k) → InSpan (block_lines lines) (span_of new (line lines i).edge) i
      pick i h (yes d) = subst (λ (v : ℕ). InSpan (block_lines lines) (span_of new (line lines v).edge) v) (sym d) own
      pick i h (no d) = older i (omega arith)

-- ---- in the working words

-- Some spans, within the words: a and m are their place and number.
between : (s i k l a m : ℕ) → s + 2 < i → i + k ≤ l → a ≡ s → m ≡ i - s → (0 < m) × (a + m ≤ l)
between s i k l a m h r p q = (omega arith, omega arith)

pub spans_room : (n : ℕ) → 2 ≤ n → (a m : ℕ) → a ≡ spans_at n → m ≡ span_count n → (0 < m) × (a + m ≤ work_words n)
spans_room n two a m p q = between (spans_at n) (index_at n) n (work_words n) a m (room_left n two).1 (index_fits n two) p q

pub span_place : (n : ℕ) → 2 ≤ n → (a m i : ℕ) → a ≡ spans_at n → m ≡ span_count n → a + i % m < work_words n
span_place n two a m i p q = let r = spans_room n two a m p q in omega (arith, r.1, mod-lt i {m = m} r.0)

part_size : (a m k : ℕ) (w : List ℕ) → a + m ≤ k → k ≤ length w → length (take m (drop a w)) ≡ m
part_size a m k w r h = length-take-le m (drop a w) (simp length-drop (omega arith))

spans_length : (n : ℕ) (w : List ℕ) → 2 ≤ n → Enough n w → length (spans_in n w) ≡ span_count n
unfolding spans_in
spans_length n w two long = part_size (spans_at n) (span_count n) (work_words n) w (spans_room n two (spans_at n) (span_count n) refl refl).1 long

span_word : (n : ℕ) (w : List ℕ) (j : ℕ) → j < span_count n → get_or (spans_in n w) j 0 ≡ get_or w (spans_at n + j) 0
unfolding spans_in
span_word n w j h = get_or-take (span_count n) (drop (spans_at n) w) j 0 h ∙ get_or-drop (spans_at n) w j 0

pub span_read : (n : ℕ) (w : List ℕ) (a c i : ℕ) → 2 ≤ n → Enough n w → a ≡ spans_at n → c ≡ span_count n
    → get_or w (a + i % c) 0 ≡ span_of (spans_in n w) i
unfolding span_of
span_read n w a c i two long p q =
    rw (p, q, spans_length n w two long)
    (sym (span_word n w (i % span_count n) (mod-lt i {m = span_count n} (spans_room n two (spans_at n) (span_count n) refl refl).0)))

-- The spans lent, and come back: a and m are their place and number, as the code has them.
module _ (n a m : ℕ) (w : List ℕ) (p : a ≡ spans_at n) (q : m ≡ span_count n) (h : a + m ≤ length w) (ys : List ℕ)
    (e : length ys ≡ length (mid_of a (a + m - a) w)) where
  pub laid_only : OnlyIn (spans_at n) (span_count n) w (put_mid a (a + m - a) w ys)
  laid_only =
      subst (λ (i : ℕ). OnlyIn i (span_count n) w (put_mid a (a + m - a) w ys)) p
      (subst (λ (k : ℕ). OnlyIn a k w (put_mid a (a + m - a) w ys)) q (put_only a m w h ys e))

  pub laid_noted : (lines : Bytes) → Spanned lines ys → SpannedIn lines n (put_mid a (a + m - a) w ys)
  unfolding spans_in
  laid_noted lines t =
      let i = ap (λ (i : ℕ). take (span_count n) (drop i (put_mid a (a + m - a) w ys))) p in
      let k = ap (λ (k : ℕ). take k (drop a (put_mid a (a + m - a) w ys))) q in
      subst (Spanned lines) (sym (put_part a m w h ys e) ∙ (k ∙ i)) t

pub spanned_kept : (lines : Bytes) (n : ℕ) (w w' : List ℕ) → KeptFrom (spans_at n) w w' → SpannedIn lines n w → SpannedIn lines n w'
spanned_kept lines n w w' k t = subst (Spanned lines) (sym (same)) t
  where
    same : spans_in n w' ≡ spans_in n w
    same = unfold spans_in in ap (take (span_count n)) k

-- A sheet without lines.
pub spanned_none : (n : ℕ) (w : List ℕ) → SpannedIn [] n w
unfolding line_count
spanned_none n w = record { each = λ k h. absurd (omega arith) }
