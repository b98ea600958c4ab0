-- What a call hands back and leaves in the working words, by the number of the broken rule or 0. Assumes nothing.
use Prim.Native.Nat.{ℕ, ◌≤◌}
use mathlib.Core.Path.{◌≡◌, refl, ◌∙◌}
use mathlib.Core.Bool.{Bool, true, false, not, ◌&&◌, cond}
use mathlib.Core.List.{List, [], ◌∷◌, ◌++◌}
use lib.ListN.{length, take, drop, replicate}
use lib.Seq.{length-take-le}
use borrow.Author.Tests.{ne_eqb, not-true}
use Rattle.model.specs.Bytes.{Bytes}
use Rattle.model.specs.Contents.{node_body}
use Rattle.model.specs.Network.{node_count}
use Rattle.model.specs.Rules.{Rule, first_broken, words_needed, work_words}
use Rattle.model.specs.Calls.{clears, cleared, work_after, answer_after}
use Rattle.model.specs.declared.Answer.{Answer}
use Rattle.model.specs.declared.Answer.TheVariants.{Refused}
use Rattle.theory.specs.Tests.{both}
use Rattle.words.specs.Frames.{KeptFrom}

-- ---- the answer
pub answer_refused : (rule : ℕ) (a : Answer) → (rule ≡ 0 → ⊥) → Refused rule ≡ answer_after rule a
unfolding answer_after
answer_refused rule a h = rw (ne_eqb rule 0 h)

pub answer_given : (rule : ℕ) (a : Answer) → rule ≡ 0 → a ≡ answer_after rule a
unfolding answer_after
answer_given rule a e = rw e

-- ---- the words after a rule that writes nothing

-- No rule of the list is one that zeroes the words.
unfoldable pub unclearing : List Rule → Bool
unclearing [] = true
unclearing (r ∷ rs) = not (clears r.number) && unclearing rs

uncleared : (rs : List Rule) → unclearing rs ≡ true → (first_broken rs ≡ 0 → ⊥) → clears (first_broken rs) ≡ false
unfolding unclearing first_broken
uncleared [] u h = absurd (h refl)
uncleared (r ∷ rs) u h =
    let b = both {b = not (clears r.number)} u in
    step r.broken (not-true (clears r.number) b.0) (λ k. uncleared rs b.1 k) h
  where
    step : (b : Bool) → clears r.number ≡ false → ((first_broken rs ≡ 0 → ⊥) → clears (first_broken rs) ≡ false)
        → (cond b r.number (first_broken rs) ≡ 0 → ⊥)
        → clears (cond b r.number (first_broken rs)) ≡ false
    step true e rest k = e
    step false e rest k = rest k

pub words_kept : (rs : List Rule) → unclearing rs ≡ true → (rule : ℕ) → rule ≡ first_broken rs → (f : Bytes) (work : List ℕ) → (rule ≡ 0 → ⊥)
    → work ≡ work_after rule f work
unfolding work_after
words_kept rs u rule e f work h = rw (e, uncleared rs u (λ z. h (e ∙ z)))

-- ---- the words after success, whatever was done to them before
module _ (f : Bytes) (work mid : List ℕ) (rest : KeptFrom (words_needed f) work mid) where
  pub words_cleared : (rule : ℕ) → rule ≡ 0 → cleared (words_needed f) mid ≡ work_after rule f work
  unfolding work_after clears cleared
  words_cleared rule e = rw (e, rest)

  -- Success and the last rule, 15 or 16, alike set the first words to zero.
  pub last_clears : (k : ℕ) → clears k ≡ true → (b : Bool) → cleared (words_needed f) mid ≡ work_after (cond b k 0) f work
  unfolding work_after cleared
  last_clears k h true = rw (h, rest)
  last_clears k h false = words_cleared 0 refl

-- ---- zeroing
pub needed : (f : Bytes) (n : ℕ) → n ≡ node_count (node_body f) → (w : List ℕ) → cleared (work_words n) w ≡ cleared (words_needed f) w
unfolding words_needed
needed f n e w = rw e

pub cleared_front : (w ys : List ℕ) (k : ℕ) → k ≤ length w → ys ≡ replicate (length (take k w)) 0 → ys ++ drop k w ≡ cleared k w
unfolding cleared
cleared_front w ys k h e = rw (e, length-take-le k w h)
