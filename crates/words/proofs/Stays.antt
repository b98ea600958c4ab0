-- Words that stay: the laws of frames. Assumes nothing.
use Prim.Native.Nat.{ℕ, zero, suc, ◌+◌, ◌-◌, ◌≤◌, ◌<◌}
use native.Mathlib.Nat.{zero-add, suc-add}
use native.Mathlib.Omega.{arith}
use mathlib.Core.Path.{◌≡◌, refl, sym, ap, ◌∙◌, subst}
use mathlib.Core.List.{List, [], ◌∷◌}
use lib.ListN.{set, take, drop}
use lib.Seq.{take-take, drop-drop, take-nil, drop-nil, take-set-le, drop-set-lt}
use Rattle.words.specs.Frames.{KeptFrom, OnlyIn}

pub take_drop : (n m : ℕ) (l : List ℕ) → take m (drop n l) ≡ drop n (take (n + m) l)
take_drop zero m l = rw zero-add
take_drop (suc n) m [] = rw (take-nil, take-nil, drop-nil)
take_drop (suc n) m (x ∷ l) = rw suc-add (take_drop n m l)

pub take_less : (m a : ℕ) (w w' : List ℕ) → m ≤ a → take a w' ≡ take a w → take m w' ≡ take m w
take_less m a w w' h e = sym (take-take m a w' h) ∙ (ap (take m) e ∙ take-take m a w h)

-- Where the words from a on stay, those from m on do.
pub kept_more : (a m : ℕ) (w w' : List ℕ) → a ≤ m → KeptFrom a w w' → KeptFrom m w w'
kept_more a m w w' h e =
    let k : a + (m - a) ≡ m = omega arith in
    subst (λ (i : ℕ). KeptFrom i w w') k (sym (drop-drop (m - a) a w') ∙ (ap (drop (m - a)) e ∙ drop-drop (m - a) a w))

module _ (a m : ℕ) (w w' : List ℕ) (o : OnlyIn a m w w') where
  -- The words from b to b + l, where they end before a or begin at a + m or later.
  pub before_kept : (b l : ℕ) → b + l ≤ a → take l (drop b w') ≡ take l (drop b w)
  before_kept b l h = rw (take_drop b l w', take_drop b l w) (ap (drop b) (take_less (b + l) a w w' h o.front))

  pub after_kept : (b : ℕ) → a + m ≤ b → KeptFrom b w w'
  after_kept b h = kept_more (a + m) b w w' h o.back

module _ (a m : ℕ) (w : List ℕ) where
  pub only_same : OnlyIn a m w w
  only_same = record { front = refl; back = refl }

  pub only_then : (x y : List ℕ) → OnlyIn a m w x → OnlyIn a m x y → OnlyIn a m w y
  only_then x y p q = record { front = q.front ∙ p.front; back = q.back ∙ p.back }

  -- A store in the part.
  pub only_set : (i x : ℕ) → i < m → OnlyIn a m w (set w (a + i) x)
  only_set i x h = record { front = take-set-le a w (a + i) x (omega arith); back = drop-set-lt (a + m) w (a + i) x (omega arith) }
