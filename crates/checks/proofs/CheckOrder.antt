-- Rules checked one after the other: what each function that checks one rule more cites. Assumes nothing.
use Prim.Native.Nat.{ℕ}
use mathlib.Core.Path.{◌≡◌, refl, sym, ◌∙◌, ap}
use mathlib.Core.Bool.{Bool, true, false, ◌||◌, cond}
use mathlib.Core.List.{List, [], ◌∷◌, ◌++◌}
use Rattle.model.specs.Bytes.{Bytes}
use Rattle.model.specs.Rules.{Rule, rule, first_broken, shape_rules, well_shaped}
use Rattle.theory.specs.Firsts.{counted, first_append, first_stays}
use Rattle.theory.specs.Passed.{shape_counted, all_shaped, shaped_all}

-- `r` is the first broken of the rules `rs`, and rule k is checked after them.
module _ (rs : List Rule) (r : ℕ) (e : r ≡ first_broken rs) where
  -- One of them is broken: it is the first of a longer list too.
  pub sooner : (more : List Rule) → (r ≡ 0 → ⊥) → r ≡ first_broken (rs ++ more)
  sooner more h = e ∙ sym (first_stays rs more (λ z. h (e ∙ z)))

  -- None of them is: rule k alone is left.
  pub last_left : counted rs ≡ true → r ≡ 0 → (k : ℕ) (broken : Bool) → first_broken (rs ++ (rule k broken ∷ [])) ≡ cond broken k 0
  unfolding first_broken
  last_left c z k broken = first_append rs (rule k broken ∷ []) c (sym e ∙ z)

  -- So the number q of rule k, which the code has tested as `tested`, is that of the first broken rule.
  pub decides : counted rs ≡ true → r ≡ 0 → (k : ℕ) {tested broken : Bool} {q : ℕ} → tested ≡ broken → q ≡ cond tested k 0
      → q ≡ first_broken (rs ++ (rule k broken ∷ []))
  decides c z k {tested} {broken} t n = n ∙ (ap (λ (b : Bool). cond b k 0) t ∙ sym (last_left c z k broken))

-- The same after the rules of the shape, for an oracle that keeps them.
module _ (o : Bytes) (h : well_shaped o ≡ true) where
  pub no_rule : 0 ≡ first_broken (shape_rules o)
  no_rule = sym (shaped_all o (all_shaped o h))

  pub decides_shaped : (k : ℕ) {tested broken : Bool} {q : ℕ} → tested ≡ broken → q ≡ cond tested k 0 → q ≡ first_broken (shape_rules o ++ (rule k broken ∷ []))
  decides_shaped k t n = decides (shape_rules o) 0 no_rule (shape_counted o) refl k t n

-- A rule of two parts, the second tested where the first is kept.
pub first_part : {a : Bool} (b : Bool) → a ≡ true → true ≡ a || b
first_part b e = rw e

pub second_part : {a b tested : Bool} → a ≡ false → tested ≡ b → tested ≡ a || b
second_part e t = rw (e, t)

-- A rule that is not broken, after others.
pub last_kept : (rs : List Rule) (k : ℕ) {b : Bool} → b ≡ false → first_broken (rs ++ (rule k b ∷ [])) ≡ first_broken rs
unfolding first_broken
last_kept [] k e = rw e
last_kept (r ∷ rs) k e = rw (last_kept rs k e)
