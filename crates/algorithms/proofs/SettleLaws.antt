-- To settle a nearest node puts it in front of the order. Assumes nothing.
use Rattle.std.specs.Prelude.{ℕ, ◌≤◌, ◌<◌, ◌≡◌, length, set}
use Rattle.std.proofs.Common.{arith}
use Rattle.std.proofs.Math.Path.{refl}
use Rattle.std.proofs.Math.Logic.{⊎_elim}
use mathlib.Core.List.Memᴰ
use mathlib.Core.List.{List, [], ◌∷◌, Memᴰ}
use Rattle.model.specs.Walk.{Arc}
use Rattle.theory.specs.Walks.{Within}
use Rattle.algorithms.specs.Dijkstra.{at, Inv, Nearest, Out, relax_all}
use Rattle.algorithms.proofs.DijkstraLaws.{same, was_settled}
use Rattle.algorithms.specs.Settle.{Falling, Kept, flag_here, flag_stays}

-- Where the words of the listed nodes stay, they still fall.
falling_same : (d d' order : List ℕ) → ((v : ℕ) → Memᴰ v order → at d' v ≡ at d v) → Falling d order → Falling d' order
unfolding Falling
falling_same d d' [] keep f = tt
falling_same d d' (v ∷ order) keep f = (
  λ x m. omega (arith, keep x (Memᴰ.tail m), keep v (Memᴰ.head refl), f.0 x m),
  falling_same d d' order (λ x m. keep x (Memᴰ.tail m)) f.1,
)

-- To settle a node puts it in front.
module _ (arcs : List Arc) (N s : ℕ) (within : Within N arcs) (s_in : s < N) (d done : List ℕ) (inv : Inv arcs N s d done) (order : List ℕ)
    (kept : Kept N d done order)
    (u : ℕ) (near : Nearest N d done u) (out : List Arc) (o : Out arcs u out) where
  abbrev d' : List ℕ
  d' = relax_all (at d u) out d

  u_in : u < length done
  u_in = omega (arith, inv.flags, near.inside)

  -- A settled node is no farther than u, and keeps its word.
  before_u : (x : ℕ) → Memᴰ x order → at d x ≤ at d u
  before_u x m = let k = kept.settled x m in inv.ordered x u k.0 near.inside k.1 near.fresh

  word : (x : ℕ) → Memᴰ x order → at d' x ≡ at d x
  word x m = same arcs N s within s_in d done inv u near out o x (kept.settled x m).0 (before_u x m)

  word_u : at d' u ≡ at d u
  word_u = same arcs N s within s_in d done inv u near out o u near.inside (omega arith)

  pub kept_settle : Kept N (relax_all (at d u) out d) (set done u 1) (u ∷ order)
  unfolding Falling
  kept_settle = record {
    settled = λ v m. ⊎_elim
        (λ e. rw e (near.inside, flag_here done u u u_in refl, omega (arith, near.reached, word_u)))
        (λ k. let r = kept.settled v k in (r.0, flag_stays done u v u_in r.1, omega (arith, r.2, word v k)))
        (Memᴰ.cases_cons m);
    every = λ v i h. ⊎_elim (λ e. Memᴰ.head e) (λ k. Memᴰ.tail (kept.every v i k)) (was_settled arcs N s within s_in d done inv u near out o v h);
    falls = (λ x m. omega (arith, word x m, word_u, before_u x m), falling_same d d' order word kept.falls);
  }
