-- The first broken rule of a list of rules. Assumes nothing.
use Rattle.std.specs.Prelude.{ℕ, ◌<◌, ◌≡◌, refl, Bool, true, false, ◌&&◌, cond, List, [], ◌∷◌, ◌++◌, ltb}
use Rattle.std.proofs.Math.Decide.{ℕ_discrete}
use Rattle.std.proofs.Common.{arith, sym, ◌∙◌, ltb-true}
use Rattle.model.specs.Rules.{Rule, rule, first_broken}
use Rattle.theory.specs.Tests.{both}

pub passed : (n : ℕ) (b : Bool) (rs : List Rule) → 0 < n → first_broken (rule n b ∷ rs) ≡ 0 → (b ≡ false) × (first_broken rs ≡ 0)
unfolding first_broken
passed n true rs h e = absurd (omega arith)
passed n false rs h e = (refl, e)

-- Rules that are not broken, before others.
unfoldable pub counted : List Rule → Bool
counted [] = true
counted (r ∷ rs) = ltb 0 r.number && counted rs

pub first_append : (xs ys : List Rule) → counted xs ≡ true → first_broken xs ≡ 0 → first_broken (xs ++ ys) ≡ first_broken ys
unfolding counted first_broken
first_append [] ys c h = refl
first_append (r ∷ xs) ys c h = step r.broken (both {b = ltb 0 r.number} c) h (λ k e. first_append xs ys k e)
  where
    step : (b : Bool) → (ltb 0 r.number ≡ true) × (counted xs ≡ true) → cond b r.number (first_broken xs) ≡ 0
        → (counted xs ≡ true → first_broken xs ≡ 0 → first_broken (xs ++ ys) ≡ first_broken ys)
        → cond b r.number (first_broken (xs ++ ys)) ≡ first_broken ys
    step true k e rest = let z : 0 < r.number = ltb-true 0 r.number k.0 in absurd (omega arith)
    step false k e rest = rest k.1 e

-- A broken rule is the first broken one of a longer list too.
pub first_stays : (xs ys : List Rule) → (first_broken xs ≡ 0 → ⊥) → first_broken (xs ++ ys) ≡ first_broken xs
unfolding first_broken
first_stays [] ys h = absurd (h refl)
first_stays (r ∷ xs) ys h = step r.broken h (λ k. first_stays xs ys k)
  where
    step : (b : Bool) → (cond b r.number (first_broken xs) ≡ 0 → ⊥) → ((first_broken xs ≡ 0 → ⊥) → first_broken (xs ++ ys) ≡ first_broken xs)
        → cond b r.number (first_broken (xs ++ ys)) ≡ cond b r.number (first_broken xs)
    step true h rest = refl
    step false h rest = rest h

-- ---- as a call checks them: a broken rule stops the check, a kept one lets it go on
pub stops : (n : ℕ) {b : Bool} (rs : List Rule) → b ≡ true → n ≡ first_broken (rule n b ∷ rs)
unfolding first_broken
stops n rs e = rw e

pub goes : (n : ℕ) {b : Bool} (rs : List Rule) {k : ℕ} → b ≡ false → k ≡ first_broken rs → k ≡ first_broken (rule n b ∷ rs)
unfolding first_broken
goes n rs e q = rw e q

pub none : 0 ≡ first_broken []
unfolding first_broken
none = refl

-- One rule more, after rules that are kept.
module _ (xs : List Rule) (n : ℕ) {b : Bool} (c : counted xs ≡ true) (h : first_broken xs ≡ 0) where
  pub one_kept : b ≡ false → 0 ≡ first_broken (xs ++ (rule n b ∷ []))
  one_kept e = goes n [] e none ∙ sym (first_append xs (rule n b ∷ []) c h)

-- A list of rules that is kept, and one rule more: both are kept.
pub split : (xs : List Rule) (n : ℕ) (b : Bool) → counted xs ≡ true → 0 < n → first_broken (xs ++ (rule n b ∷ [])) ≡ 0 → (first_broken xs ≡ 0) × (b ≡ false)
split xs n b c p h = pick (ℕ_discrete (first_broken xs) 0)
  where
    pick : Dec (first_broken xs ≡ 0) → (first_broken xs ≡ 0) × (b ≡ false)
    pick (yes e) = (e, (passed n b [] p (sym (first_append xs (rule n b ∷ []) c e) ∙ h)).0)
    pick (no m) = absurd (m (sym (first_stays xs (rule n b ∷ []) m) ∙ h))
