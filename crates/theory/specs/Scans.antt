-- A loop that looks for an element that passes a test, as a rule does for a record that breaks it, and stops at the first: in terms of what
-- is left of the list. Assumes nothing.
use Rattle.std.specs.Prelude.{ℕ, ◌≡◌, Bool, true, false, List, [], ◌∷◌, map}
use Rattle.std.proofs.Math.Path.{sym}
use Rattle.std.proofs.Common.{◌∙◌}
use Rattle.model.specs.Lists.{any, up_to}
use Rattle.theory.specs.RangeLaws.{rest, rest_all}

-- Records made by their numbers: all of them are left.
pub scan_all : {A : Type 0} (p : A → Bool) (f : ℕ → A) (n : ℕ) → any p (map f (up_to n)) ≡ any p (map f (rest 0 n))
scan_all p f n = rw (← rest_all n)

-- The answer is that for the elements left.
module _ {A : Type 0} (p : A → Bool) {answer : Bool} {left : List A} (inv : answer ≡ any p left) where
  -- One turn: r is the test of the next element x.
  module _ {x : A} {more : List A} (next : left ≡ x ∷ more) {r : Bool} (e : r ≡ p x) where
    pub scan_found : r ≡ true → true ≡ answer
    unfolding any
    scan_found t = sym (inv ∙ rw (next, ← e, t))

    pub scan_passed : r ≡ false → answer ≡ any p more
    unfolding any
    scan_passed t = inv ∙ rw (next, ← e, t)

  pub scan_end : left ≡ [] → false ≡ answer
  unfolding any
  scan_end none = sym (inv ∙ rw none)
