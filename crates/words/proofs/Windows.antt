-- Where the regions stand; the words of one of them changed, and the regions apart from it. Assumes nothing.
use Prim.Native.Nat.{ℕ, zero, suc, ◌+◌, ◌-◌, ◌*◌, ◌/◌, ◌≤◌, ◌<◌}
use native.Mathlib.Nat.{add-zero, suc-mul}
use native.Mathlib.Decide.{ℕ_discrete, dec_lt, dec_le}
use native.Mathlib.Omega.{arith}
use mathlib.Core.Path.{◌≡◌, sym, ap, ◌∙◌}
use mathlib.Core.List.{List, ◌++◌}
use borrow.Author.Tests.{le-leb, lt-leb}
use lib.Dec.{leb}
use borrow.Rule.Slice.PartMut.{mid_of, post_of, put_mid, take_put, drop_put, mid_len}
use lib.ListN.{length, set, take, drop, replicate, length-drop}
use lib.Seq.{length-take-le, take_at, drop_at, get_or-take}
use Rattle.model.specs.Rules.{work_words}
use Rattle.bitset.specs.Bits.{set_words, is_in, insert_in, flags}
use Rattle.bitset.proofs.Members.{flags_same, flags_insert, flags_none, insert_is, insert_from}
use Rattle.words.specs.Halves.{half_words}
use Rattle.words.specs.Regions.{hop_words, queue_words, search_words, region_at, region, region_flags, counts, spans_at, index_at, place_at, index_words}
use Rattle.words.specs.Times.{time_words}
use Rattle.words.specs.Frames.{OnlyIn, Only, KeptFrom}
use Rattle.words.proofs.Stays.{kept_more, before_kept, after_kept, only_set}

-- ---- where the regions stand
pub at_words : (n k : ℕ) → k < 2 → k * n ≡ region_at n k
at_words n zero h = omega arith
at_words n (suc zero) h = omega arith
at_words n (suc (suc k)) h = absurd (omega arith)

pub at_sets : (n k : ℕ) → 2 ≤ k → queue_words n + (k - 2) * set_words n ≡ region_at n k
at_sets n zero h = absurd (omega arith)
at_sets n (suc zero) h = absurd (omega arith)
at_sets n (suc (suc k)) h = let e : suc (suc k) - 2 ≡ k = omega arith in rw e

-- Whether k numbers of 16 bits fit into the index, as the code has it.
pub fits_same : (n k : ℕ) → 0 < k → leb (k + 2 * place_at n) (2 * work_words n) ≡ leb k (2 * index_words n)
fits_same n k h = pick (dec_le (k + 2 * place_at n) (2 * work_words n))
  where
    pick : Dec (k + 2 * place_at n ≤ 2 * work_words n) → leb (k + 2 * place_at n) (2 * work_words n) ≡ leb k (2 * index_words n)
    pick (yes l) = le-leb (k + 2 * place_at n) (2 * work_words n) l ∙ sym (le-leb k (2 * index_words n) (omega arith))
    pick (no l) = lt-leb (k + 2 * place_at n) (2 * work_words n) (omega arith) ∙ sym (lt-leb k (2 * index_words n) (omega arith))

-- From two nodes on the index has a word for each.
pub index_fits : (n : ℕ) → 2 ≤ n → index_at n + n ≤ work_words n
index_fits n h = pick (ℕ_discrete n 2)
  where
    pick : Dec (n ≡ 2) → index_at n + n ≤ work_words n
    pick (yes e) = rw e (omega arith)
    pick (no d) = omega (arith, d)

-- From two nodes on the hops have the words that they need, and the queue's words are those of the times. The words of a search have them in any case.
pub hops_fit : (n : ℕ) → 2 ≤ n → hop_words n ≡ half_words n
hops_fit n h = omega arith

pub times_fit : (n : ℕ) → time_words n ≤ search_words n
times_fit n = omega arith

-- Behind the sets there is room for the counts.
counts_two : (n hops sets : ℕ) → 2 ≤ n → hops ≤ half_words n → 32 * sets ≤ n + 32 → 2 * n + hops + 5 * sets + half_words n ≤ work_words n
counts_two n hops sets h l r = omega arith

pub counts_fit : (n : ℕ) → 0 < n → region_at n counts + half_words n ≤ work_words n
counts_fit n h = pick (ℕ_discrete n 1)
  where
    pick : Dec (n ≡ 1) → region_at n counts + half_words n ≤ work_words n
    pick (yes e) = rw e (omega arith)
    pick (no d) =
        let two : 2 ≤ n = omega (arith, d) in
        counts_two n (hop_words n) (set_words n) two (omega (arith, hops_fit n two)) (omega arith)

-- From two nodes on the index stands behind them, and in an opened oracle there is room for T-11's two numbers of the grid, and a span behind them.
pub room_left : (n : ℕ) → 2 ≤ n → (region_at n counts + half_words n ≤ index_at n) × (spans_at n + 2 < index_at n)
room_left n h = (omega arith, pick (ℕ_discrete n 2) (ℕ_discrete n 3))
  where
    pick : Dec (n ≡ 2) → Dec (n ≡ 3) → spans_at n + 2 < index_at n
    pick (yes e) d = rw e (omega arith)
    pick (no d) (yes e) = rw e (omega arith)
    pick (no d) (no e) = omega (arith, d, e)

-- The set in a region ends before the next region begins.
set_end : (n j : ℕ) → 0 < n → region_at n j + set_words n ≤ region_at n (suc j)
set_end n zero h = omega arith
set_end n (suc zero) h = omega arith
set_end n (suc (suc j)) h = omega (arith, suc-mul j (set_words n))

before : (n j i : ℕ) → 0 < n → region_at n j + set_words n ≤ region_at n (suc j + i)
before n j zero h = rw (add-zero (suc j)) (set_end n j h)
before n j (suc i) h = let e : suc j + suc i ≡ suc (suc j + i) = omega arith in rw e (omega (arith, before n j i h, set_end n (suc j + i) h))

apart : (n j k : ℕ) → 0 < n → j < k → region_at n j + set_words n ≤ region_at n k
apart n j k h l = let e : suc j + (k - suc j) ≡ k = omega arith in rw e at (before n j (k - suc j) h)

-- ---- the words of a set show n numbers
pub in_front : (n : ℕ) (s : List ℕ) (v : ℕ) → v < n → is_in (take (set_words n) s) v ≡ is_in s v
unfolding is_in
in_front n s v h = rw (get_or-take (set_words n) s (v / 32) 0 (omega arith))

pub flags_front : (n : ℕ) (s : List ℕ) → flags n (take (set_words n) s) ≡ flags n s
flags_front n s = flags_same n (take (set_words n) s) s (λ v h. in_front n s v h)

-- ---- the words from a to a + m, lent and come back
module _ (a m : ℕ) (w : List ℕ) where
  width : a + m - a ≡ m
  width = omega arith

  pub part_is : mid_of a (a + m - a) w ≡ take m (drop a w)
  part_is = ap (λ (k : ℕ). take k (drop a w)) width

  module _ (h : a + m ≤ length w) where
    pub part_length : length (mid_of a (a + m - a) w) ≡ m
    part_length = mid_len a (a + m) w h ∙ width

    module _ (ys : List ℕ) (e : length ys ≡ length (mid_of a (a + m - a) w)) where
      abbrev put : List ℕ
      put = put_mid a (a + m - a) w ys

      size : length ys ≡ m
      size = e ∙ part_length

      pub put_only : OnlyIn a m w put
      put_only = record { front = take_put a (a + m - a) w ys (omega arith); back = drop_put a (a + m) w ys (omega arith) h (size ∙ sym width) }

      pub put_part : take m (drop a put) ≡ ys
      put_part =
          ap (take m) (drop_at (take a w) (ys ++ post_of a (a + m - a) w) a (length-take-le a w (omega arith)))
          ∙ take_at ys (post_of a (a + m - a) w) m size

pub region_length : (n k : ℕ) (w : List ℕ) → region_at n k + set_words n ≤ length w → length (region n k w) ≡ set_words n
region_length n k w h = length-take-le (set_words n) (drop (region_at n k) w) (simp length-drop (omega arith))

-- ---- a set lent, to be emptied: a and m are its place and its words, as the code has them
module _ (n k a m : ℕ) (w : List ℕ) (p : a ≡ region_at n k) (q : m ≡ set_words n) (h : a + m ≤ length w) where
  module _ (ys : List ℕ) (e : length ys ≡ length (mid_of a (a + m - a) w)) where
    abbrev new : List ℕ
    new = put_mid a (a + m - a) w ys

    pub emptied_only : Only n k w new
    emptied_only = rw (← p, ← q) (put_only a m w h ys e)

    pub emptied : ys ≡ replicate (length (mid_of a (a + m - a) w)) 0 → region_flags n k new ≡ replicate n 0
    emptied r =
        sym (flags_front n (drop (region_at n k) new))
        ∙ (ap (flags n) (rw (← p, ← q) (put_part a m w h ys e) ∙ r) ∙ flags_none n (length (mid_of a (a + m - a) w)))

-- ---- a node put into a set
module _ (n k v : ℕ) (w : List ℕ) (v_in : v < n) where
  pub inserted_only : Only n k w (insert_in w (32 * region_at n k + v))
  inserted_only = rw (insert_is w (region_at n k) v) (only_set (region_at n k) (set_words n) w (v / 32) _ (omega arith))

  pub inserted : region_at n k + set_words n ≤ length w → region_flags n k (insert_in w (32 * region_at n k + v)) ≡ set (region_flags n k w) v 1
  inserted h = rw (insert_from w (region_at n k) v) (flags_insert n (drop (region_at n k) w) v v_in (simp length-drop (omega arith)))

-- ---- what stays where a part alone is changed
module _ (a m : ℕ) (w w' : List ℕ) (o : OnlyIn a m w w') where
  -- The set in a region that ends before a.
  pub flags_before : (n j : ℕ) → region_at n j + set_words n ≤ a → region_flags n j w' ≡ region_flags n j w
  flags_before n j h = sym (flags_front n (drop (region_at n j) w')) ∙ (ap (flags n) (before_kept a m w w' o (region_at n j) (set_words n) h)
      ∙ flags_front n (drop (region_at n j) w))

module _ (n j k : ℕ) (w w' : List ℕ) (differ : j ≡ k → ⊥) (o : Only n k w w') where
  pub region_kept : 0 < n → region n j w' ≡ region n j w
  region_kept h = pick (dec_lt j k)
    where
      pick : Dec (j < k) → region n j w' ≡ region n j w
      pick (yes l) = before_kept (region_at n k) (set_words n) w w' o (region_at n j) (set_words n) (apart n j k h l)
      pick (no l) = ap (take (set_words n)) (after_kept (region_at n k) (set_words n) w w' o (region_at n j) (apart n k j h (omega (arith, differ))))

  pub in_kept : (v : ℕ) → v < n → is_in (drop (region_at n j) w') v ≡ is_in (drop (region_at n j) w) v
  in_kept v h = sym (in_front n (drop (region_at n j) w') v h) ∙ (ap (λ (l : List ℕ). is_in l v) (region_kept (omega arith))
      ∙ in_front n (drop (region_at n j) w) v h)

  pub flags_kept : region_flags n j w' ≡ region_flags n j w
  flags_kept = flags_same n (drop (region_at n j) w') (drop (region_at n j) w) (λ v h. in_kept v h)

-- The sets behind the words of a search, which leaves the words from there on.
behind_search : (n k : ℕ) → 3 ≤ k → search_words n ≤ region_at n k
behind_search n zero h = absurd (omega arith)
behind_search n (suc zero) h = absurd (omega arith)
behind_search n (suc (suc zero)) h = absurd (omega arith)
behind_search n (suc (suc (suc k))) h = omega (arith, suc-mul k (set_words n))

pub region_later : (n k : ℕ) (w w' : List ℕ) → 3 ≤ k → KeptFrom (search_words n) w w' → region n k w' ≡ region n k w
region_later n k w w' h e = ap (take (set_words n)) (kept_more (search_words n) (region_at n k) w w' (behind_search n k h) e)
