-- A least walk passes no node twice, where each arc costs something. Assumes nothing.
use Rattle.std.specs.Prelude.{ℕ, suc, ◌+◌, ◌≤◌, ◌≡◌, refl, ◌⊎◌, length}
use Rattle.std.proofs.Common.{arith, ap, subst, sym, inl, inr}
use mathlib.Core.List.Memᴰ
use mathlib.Core.List.{List, ◌∷◌, Memᴰ}
use Rattle.model.specs.Lists.{Distinct}
use Rattle.model.specs.Walk.{Arc, Walk, stay, go, hops, Least, nodes_after, nodes_of}
use Rattle.theory.specs.Walks.{Positive, one, last_part}

-- A walk has as many nodes after its first as it has arcs.
pub nodes_count : {arcs : List Arc} {u t n : ℕ} (w : Walk arcs u t n) → length (nodes_after w) ≡ hops w
unfolding nodes_after hops
nodes_count stay = refl
nodes_count (go a i w) = ap suc (nodes_count w)

-- From each of its nodes the rest of a walk leads on.
record Rest (arcs : List Arc) (x t n : ℕ) : Type 0 where
  total : ℕ
  walk : Walk arcs x t total
  less : total ≤ n

rest : {arcs : List Arc} {u t n : ℕ} (w : Walk arcs u t n) (x : ℕ) → Memᴰ x (nodes_of w) → Rest arcs x t n
unfolding nodes_of nodes_after
rest {arcs} (stay {u = u}) x m = subst (λ (y : ℕ). Rest arcs y u 0) (sym (Memᴰ.eq_of_singleton m)) (record { total = 0; walk = stay; less = omega arith })
rest {arcs} (go {t = t} {n = n} a i w) x m = step (Memᴰ.cases_cons m) (λ k. rest w x k)
  where
    step : (x ≡ a.from) ⊎ Memᴰ x (a.to ∷ nodes_after w) → (Memᴰ x (a.to ∷ nodes_after w) → Rest arcs x t n) → Rest arcs x t (a.cost + n)
    step (inl e) on = subst (λ (y : ℕ). Rest arcs y t (a.cost + n)) (sym e) (record { total = a.cost + n; walk = go a i w; less = omega arith })
    step (inr k) on = let r = on k in record { total = r.total; walk = r.walk; less = omega (arith, r.less) }

pub distinct : {arcs : List Arc} → Positive arcs → {u t n : ℕ} (w : Walk arcs u t n) → Least arcs u t n → Distinct (nodes_of w)
unfolding Distinct nodes_of nodes_after
distinct above stay l = (λ m. Memᴰ.not-nil m, tt)
distinct above (go a i w) l = (
  λ m.
      let r = rest w a.from m in
      omega (arith, above a i, l.least r.total r.walk, r.less),
  distinct above w (last_part (one a i) w l),
)
