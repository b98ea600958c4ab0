-- Lists of which a part was lent on and came back. Assumes nothing.
use Prim.Native.Nat.{ℕ, ◌+◌, ◌-◌, ◌≤◌}
use native.Mathlib.Omega.{arith}
use mathlib.Core.Path.{◌≡◌, sym, ap, ◌∙◌}
use mathlib.Core.List.{List, [], ◌++◌, append-nil}
use borrow.Rule.Slice.PartMut.{mid_of, post_of, put_mid, take_put, Post-is}
use lib.ListN.{length, take, drop, length-drop, drop_of_length-le}
use lib.Seq.{length-take-le, take_all, take_at, drop_at, take-take, take-add}
use Rattle.words.specs.Frames.{KeptFrom}

-- ---- a front of n words
pub front_is : (w ys : List ℕ) (n : ℕ) → n ≤ length w → length ys ≡ length (take n w) → take n (ys ++ drop n w) ≡ ys
front_is w ys n h e = take_at ys (drop n w) n (e ∙ length-take-le n w h)

pub front_others : (w ys : List ℕ) (n : ℕ) → n ≤ length w → length ys ≡ length (take n w) → KeptFrom n w (ys ++ drop n w)
front_others w ys n h e = drop_at ys (drop n w) n (e ∙ length-take-le n w h)

-- ---- k words from a on
module _ (w ys : List ℕ) (a k : ℕ) (h : a ≤ length w) where
  pub part_before : (j : ℕ) → j ≤ a → take j (put_mid a k w ys) ≡ take j w
  part_before j l = sym (take-take j a (put_mid a k w ys) l) ∙ (ap (take j) (take_put a k w ys h) ∙ take-take j a w l)

  pub part_is : length ys ≡ k → mid_of a k (put_mid a k w ys) ≡ ys
  part_is e = ap (take k) (drop_at (take a w) (ys ++ post_of a k w) a (length-take-le a w h)) ∙ take_at ys (post_of a k w) k e

-- ---- all words from a on
pub back_part : (w : List ℕ) (a : ℕ) → mid_of a (length w - a) w ≡ drop a w
back_part w a = take_all (length w - a) (drop a w) (simp length-drop (omega arith))

pub back_is : (w ys : List ℕ) (a : ℕ) → a ≤ length w → drop a (put_mid a (length w - a) w ys) ≡ ys
back_is w ys a h =
    let e : post_of a (length w - a) w ≡ [] = Post-is a (length w) w h ∙ drop_of_length-le w {i = length w} (omega arith) in
    drop_at (take a w) (ys ++ post_of a (length w - a) w) a (length-take-le a w h) ∙ rw (e, append-nil)

-- The second n words, in the first n + n.
pub middle : (w : List ℕ) (n : ℕ) → n ≤ length w → take n (drop n w) ≡ drop n (take (n + n) w)
middle w n h = sym (ap (drop n) (take-add n n w) ∙ drop_at (take n w) (take n (drop n w)) n (length-take-le n w h))
