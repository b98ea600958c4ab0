-- Lists that are filled up to twelve. Assumes nothing.
use Prim.Native.Nat.{ℕ, zero, suc, ◌+◌, ◌-◌, ◌≤◌, ◌<◌}
use Rattle.std.proofs.Common.{arith, le_of_suc-le-suc, add-one, sym, ◌∙◌, get_or-append-add}
use Rattle.std.specs.Prelude.{◌≡◌, take, drop, set, replicate}
use Rattle.std.proofs.Math.Path.{refl, ap}
use mathlib.Core.List.{List, [], ◌∷◌, ◌++◌, map}
use Rattle.std.proofs.Math.ListN.{length, get_or, get_or-replicate, get_or-append}
use Rattle.std.proofs.lemmas.List.{length-map}
use Rattle.std.proofs.Math.Seq.{length-take-le}
use Rattle.block.specs.Block.{max_names, twelve, row_by, unused_row, block_by}

module _ {B : Type 0} (f : ℕ → B) (unused : B) where
  -- ---- what stands at each place
  module _ (names : List ℕ) (d : B) where
    pub used_at : (i : ℕ) → i < length names → get_or (twelve unused (map f names)) i d ≡ f (get_or names i 0)
    unfolding twelve
    used_at i h = get_or-append (map f names) _ d i (rw (length-map names f) h) ∙ at names i h
      where
        at : (l : List ℕ) (i : ℕ) → i < length l → get_or (map f l) i d ≡ f (get_or l i 0)
        at [] i h = absurd (omega arith)
        at (x ∷ l) zero h = refl
        at (x ∷ l) (suc i) h = at l i (le_of_suc-le-suc h)

    pub unused_at : (i : ℕ) → length names ≤ i → i < max_names → get_or (twelve unused (map f names)) i d ≡ unused
    unfolding twelve
    unused_at i h k =
        let e : i ≡ length (map f names) + (i - length names) = rw (length-map names f) (omega arith) in
        ap (λ (n : ℕ). get_or (twelve unused (map f names)) n d) e ∙ (get_or-append-add (map f names) _ (i - length names) d ∙
        get_or-replicate (max_names - length (map f names)) (i - length names) unused d (rw (length-map names f) (omega arith)))

-- ---- filled from the front, one store a turn
module _ {A B : Type 0} (f : A → B) (unused : B) (z : A) where
  -- The first i of the results, and behind them what stood there.
  front : List A → List B → ℕ → List B
  front s t i = map f (take i s) ++ drop i t

  store : (s : List A) (t : List B) (i : ℕ) → i < length s → i < length t → set (front s t i) i (f (get_or s i z)) ≡ front s t (suc i)
  unfolding front
  store [] t i h k = absurd (omega arith)
  store (x ∷ s) [] i h k = absurd (omega arith)
  store (x ∷ s) (y ∷ t) zero h k = refl
  store (x ∷ s) (y ∷ t) (suc i) h k = ap (λ (l : List B). f x ∷ l) (store s t i (le_of_suc-le-suc h) (le_of_suc-le-suc k))

  drop-replicate : (k n : ℕ) → drop k (replicate n unused) ≡ replicate (n - k) unused
  drop-replicate zero n = let e : n ≡ n - 0 = omega arith in ap (λ (m : ℕ). replicate m unused) e
  drop-replicate (suc k) zero = let e : 0 ≡ 0 - suc k = omega arith in ap (λ (m : ℕ). replicate m unused) e
  drop-replicate (suc k) (suc n) = let e : n - k ≡ suc n - suc k = omega arith in drop-replicate k n ∙ ap (λ (m : ℕ). replicate m unused) e

  front_is : (s : List A) (i : ℕ) → i ≤ length s → front s (replicate max_names unused) i ≡ twelve unused (map f (take i s))
  unfolding front twelve
  front_is s i h = rw (length-map (take i s) f, length-take-le i s h, drop-replicate i max_names)

  pub twelve_more : (s : List A) (i : ℕ) → i < length s → i < max_names → set (twelve unused (map f (take i s))) i (f (get_or s i z)) ≡ twelve unused
      (map f (take (i + 1) s))
  twelve_more s i h k =
      ap (λ (l : List B). set l i (f (get_or s i z))) (sym (front_is s i (omega arith)))
      ∙ (store s (replicate max_names unused) i h k ∙ (front_is s (suc i) h ∙ rw (add-one i)))

-- ---- the squares of a block
abbrev pub square : List (List ℕ) → ℕ → ℕ → ℕ
square b i j = get_or (get_or b i []) j 0

module _ (word : ℕ → ℕ → ℕ) (starts ends : List ℕ) (i : ℕ) where
  pub row_unused : length starts ≤ i → i < max_names → get_or (block_by word starts ends) i [] ≡ unused_row
  unfolding block_by
  row_unused h k = unused_at (row_by word ends) unused_row starts [] i h k

  pub row_used : i < length starts → get_or (block_by word starts ends) i [] ≡ row_by word ends (get_or starts i 0)
  unfolding block_by
  row_used h = used_at (row_by word ends) unused_row starts [] i h

  module _ (h : i < length starts) (j : ℕ) where
    pub square_unused : length ends ≤ j → j < max_names → square (block_by word starts ends) i j ≡ 0
    unfolding row_by
    square_unused k l = rw (row_used h) (unused_at (word (get_or starts i 0)) 0 ends 0 j k l)

    pub square_used : j < length ends → square (block_by word starts ends) i j ≡ word (get_or starts i 0) (get_or ends j 0)
    unfolding row_by
    square_used k = rw (row_used h) (used_at (word (get_or starts i 0)) 0 ends 0 j k)
