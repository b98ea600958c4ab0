-- `dist` is exact: the least total of a walk, and `none` where there is no walk. Assumes nothing.
use Rattle.std.specs.Prelude.{ℕ, ◌-◌, ◌*◌, ◌≤◌, ◌<◌, ◌≡◌, refl, ◌↔◌, List}
use Rattle.std.proofs.Common.{mul-le-mul_right, le_trans, arith}
use Rattle.model.specs.Walk.{Arc, Walk, Least}
use Rattle.theory.specs.Walks.{Within, Costs, least_unique, backward, Symmetric, least_back}
use Rattle.model.specs.Distance.{Distance, unreachable, finite, dist}
use Rattle.theory.specs.DistanceLaws.{dist_real, AtMost, dist_hits}
use Rattle.theory.specs.Shorten.{Short, shorten, costs_hops}

module _ (arcs : List Arc) (N u t : ℕ) (within : Within N arcs) (u_in : u < N) where
  -- No walk takes less than `dist`.
  dist_most : (n : ℕ) → Walk arcs u t n → AtMost (dist arcs N u t) n
  dist_most n w = loosen (dist arcs N u t) s.less (dist_hits N s.walk (omega (arith, s.few)) within u_in)
    where
      s : Short arcs N u t n
      s = shorten N within u_in w

      loosen : (p : Distance) {m k : ℕ} → m ≤ k → AtMost p m → AtMost p k
      loosen unreachable h x = x
      loosen (finite j) h x = omega arith

  pub time_least : (n : ℕ) → dist arcs N u t ≡ finite n → Least arcs u t n
  time_least n e = record { has = rw e at (dist_real arcs u N t); least = λ m w. rw e at (dist_most m w) }

  pub none_no_walk : dist arcs N u t ≡ unreachable → (n : ℕ) → Walk arcs u t n → ⊥
  none_no_walk e n w = rw e at (dist_most n w)

  -- A walk has a finite.
  pub walk_time : (m : ℕ) → Walk arcs u t m → (n : ℕ) × (dist arcs N u t ≡ finite n)
  walk_time m w = pick (dist arcs N u t) refl
    where
      pick : (p : Distance) → dist arcs N u t ≡ p → (n : ℕ) × (dist arcs N u t ≡ finite n)
      pick unreachable e = absurd (none_no_walk e m w)
      pick (finite n) e = (n, e)

  pub least_time : (n : ℕ) → Least arcs u t n → dist arcs N u t ≡ finite n
  least_time n l = let p = walk_time n l.has in rw (← least_unique (time_least p.0 p.1) l) p.1

  pub no_walk_none : ((n : ℕ) → Walk arcs u t n → ⊥) → dist arcs N u t ≡ unreachable
  no_walk_none h = pick (dist arcs N u t) refl
    where
      pick : (p : Distance) → dist arcs N u t ≡ p → dist arcs N u t ≡ unreachable
      pick unreachable e = e
      pick (finite n) e = absurd (h n (time_least n e).has)

  -- The theorem, in two equivalences.
  pub dist_time : (n : ℕ) → (dist arcs N u t ≡ finite n) ↔ Least arcs u t n
  dist_time n = (time_least n, least_time n)

  pub dist_none : (dist arcs N u t ≡ unreachable) ↔ ((n : ℕ) → Walk arcs u t n → ⊥)
  dist_none = (none_no_walk, no_walk_none)

  -- Where no arc costs more than `K`, no finite is over `(N - 1) * K`.
  pub least_bound : (K n : ℕ) → Costs K arcs → Least arcs u t n → n ≤ (N - 1) * K
  least_bound K n c l = le_trans (l.least s.total s.walk) (le_trans (costs_hops K c s.walk) (mul-le-mul_right K (omega (arith, s.few))))
    where
      s : Short arcs N u t n
      s = shorten N within u_in l.has

  pub dist_bound : (K n : ℕ) → Costs K arcs → dist arcs N u t ≡ finite n → n ≤ (N - 1) * K
  dist_bound K n c e = least_bound K n c (time_least n e)

-- Where each arc has its reverse, a time is the same both ways.
pub dist_symmetric : (arcs : List Arc) (N u t : ℕ) → Within N arcs → Symmetric arcs → u < N → t < N → dist arcs N u t ≡ dist arcs N t u
dist_symmetric arcs N u t b y hu ht = pick (dist arcs N u t) refl
  where
    pick : (p : Distance) → dist arcs N u t ≡ p → dist arcs N u t ≡ dist arcs N t u
    pick unreachable e = rw (e, no_walk_none arcs N t u b ht (λ n w. none_no_walk arcs N u t b hu e n (backward y w)))
    pick (finite n) e = rw (e, least_time arcs N t u b ht n (least_back y (time_least arcs N u t b hu n e)))
