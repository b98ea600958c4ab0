-- The access nodes as lists, and the time between two far nodes as the least over pairs of them. All of it computes.
-- Assumes nothing.
use Rattle.std.specs.Prelude.{◌≡◌, refl, ◌⊎◌, true, false}
use mathlib.Core.List.{List, Memᴰ}
use Prim.Native.Nat.{ℕ, ◌+◌}
use Rattle.std.proofs.Common.{arith}
use Rattle.model.specs.Distance.{Distance, plus, soonest, IsLeast}
use Rattle.theory.specs.Least.{meets_weaker, Sum, meets_plus, Among, meets_soonest}
use Rattle.model.specs.Walk.{Arc, Walk, Least}
use Rattle.theory.specs.Walks.{recount, join}
use Rattle.theory.specs.Far.{Square, OutAccess, InAccess, Nest, far}

-- the least of f a + g a b + h b
unfoldable pub over : (ℕ → Distance) → (ℕ → ℕ → Distance) → (ℕ → Distance) → List ℕ → List ℕ → Distance
over f g h A B = soonest (λ a. soonest (λ b. plus (f a) (plus (g a b) (h b))) B) A

-- The least sum over the access nodes is the time: over any lists A and B that have them all, in any order and perhaps with others,
-- and from tables f, g and h of which nothing is asked beyond those lists.
module _ (arcs : List Arc) (pick : Arc → ℕ) (ends : (a : Arc) → (pick a ≡ a.from) ⊎ (pick a ≡ a.to)) (Cs Is Os Ct It Ot : Square) (s t : ℕ)
    (ns : Nest Cs Is Os s t) (nt : Nest Ct It Ot t s) (apart : (x : ℕ) → Is x ≡ true → It x ≡ false) where
  pub far_over :
      (A B : List ℕ) (f : ℕ → Distance) (g : ℕ → ℕ → Distance) (h : ℕ → Distance) →
      ((x : ℕ) → OutAccess arcs pick Cs Is Os x → Memᴰ x A) →
      ((x : ℕ) → InAccess arcs pick Ct It Ot x → Memᴰ x B) →
      ((a : ℕ) → Memᴰ a A → IsLeast (Walk arcs s a) (f a)) →
      ((a b : ℕ) → Memᴰ a A → Memᴰ b B → IsLeast (Walk arcs a b) (g a b)) →
      ((b : ℕ) → Memᴰ b B → IsLeast (Walk arcs b t) (h b)) →
      IsLeast (Walk arcs s t) (over f g h A B)
  unfolding over
  far_over A B f g h in_A in_B meets_f meets_g meets_h = meets_weaker Some (Walk arcs s t) walk some (soonest outer A) sums
    where
      inner : ℕ → ℕ → Distance
      inner a b = plus (f a) (plus (g a b) (h b))

      outer : ℕ → Distance
      outer a = soonest (inner a) B

      Pair : ℕ → ℕ → ℕ → Type 0
      Pair a b = Sum (Walk arcs s a) (Sum (Walk arcs a b) (Walk arcs b t))

      Some : ℕ → Type 0
      Some = Among A (λ a. Among B (Pair a))

      sums : IsLeast Some (soonest outer A)
      sums = meets_soonest (λ a. Among B (Pair a)) outer A (λ a m.
          meets_soonest (Pair a) (inner a) B (λ b k.
          meets_plus (Walk arcs s a) (Sum (Walk arcs a b) (Walk arcs b t)) (f a) (plus (g a b) (h b)) (meets_f a m)
          (meets_plus (Walk arcs a b) (Walk arcs b t) (g a b) (h b) (meets_g a b m k) (meets_h b k))))

      walk : (n : ℕ) → Some n → Walk arcs s t n
      walk n w = let p = w.has.has in recount p.total (join p.left (recount p.right.total (join p.right.left p.right.right)))

      some : (n : ℕ) → Least arcs s t n → Some n
      some n l =
          let v = far arcs pick ends Cs Is Os Ct It Ot s t n ns nt apart l in
          let mid : Sum (Walk arcs v.a v.b) (Walk arcs v.b t) (v.y + v.z) = record
          { i = v.y; j = v.z; left = v.middle.has; right = v.last.has; total = refl } in
          let pair : Pair v.a v.b n = record { i = v.x; j = v.y + v.z; left = v.first.has; right = mid; total = omega (arith, v.sum) } in
          record { x = v.a; listed = in_A v.a v.leaving; has = record { x = v.b; listed = in_B v.b v.entering; has = pair } }
