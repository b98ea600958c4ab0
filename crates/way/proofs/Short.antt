-- A way has no node twice, since the time left falls along it: it has at most n nodes. Assumes nothing.
use Prim.Native.Nat.{ℕ, zero, suc, ◌<◌, ◌≤◌}
use native.Mathlib.Omega.{arith}
use mathlib.Core.Path.{◌≡◌, refl, sym, ap, ◌∙◌}
use mathlib.Core.List.{List, [], ◌∷◌, Memᴰ}
use lib.ListN.{length}
use Rattle.model.specs.Lists.{up_to, least_of}
use Rattle.model.specs.Walk.{Arc}
use Rattle.model.specs.Distance.{Distance, finite}
use Rattle.model.specs.Query.{nexts, onward, way_after}
use Rattle.theory.specs.Extremes.{least_of_mem}
use Rattle.theory.specs.Least.{time_inj}
use Rattle.theory.specs.Members.{→up_to}
use Rattle.theory.specs.RangeLaws.{length-range}
use Rattle.theory.specs.Shorten.{remove, remove_lt, remove_mem}
use Rattle.theory.specs.Walks.{Within, Positive}
use Rattle.way.proofs.Falls.{nearer}

module _ (d : ℕ → Distance) (arcs : List Arc) (n : ℕ) (within : Within n arcs) (positive : Positive arcs) where
  -- The nodes with less than `left` to go are all in s.
  abbrev Nearest : ℕ → List ℕ → Type 0
  Nearest left s = (v k : ℕ) → v < n → d v ≡ finite k → k < left → Memᴰ v s

  -- At each step the node stepped to leaves s. `fuel` is the way's own bound, and `size` that of s.
  few_after : (fuel size left u : ℕ) (s : List ℕ) → d u ≡ finite left → Nearest left s → length s ≤ size → length (way_after d arcs fuel u) ≤ size
  unfolding way_after onward
  few_after zero size left u s e all h = omega arith
  few_after (suc fuel) size left u s e all h = step (nexts d arcs u) refl (λ k v r f a b. few_after fuel k v r f a b)
    where
      step : (l : List ℕ) → nexts d arcs u ≡ l
          → ((k x v : ℕ) (r : List ℕ) → d v ≡ finite x → Nearest x r → length r ≤ k → length (way_after d arcs fuel v) ≤ k)
          → length (onward l (λ v. v ∷ way_after d arcs fuel v)) ≤ size
      step [] z rec = omega arith
      step (w ∷ ws) z rec =
          let v = least_of w ws in
          let m = nearer d arcs n within positive u left v e (rw z (least_of_mem w ws)) in
          let i = all v m.time m.inside m.there m.less in
          let r = remove v s in
          let shorter = remove_lt v s i in
          let rest : Nearest m.time r = λ x k b f l. remove_mem v x s (all x k b f (omega (arith, m.less)))
          (λ q. later k m.time l (sym f ∙ (ap d q ∙ m.there))) in
          more (rec (length r) m.time v r m.there rest (omega arith)) shorter
        where
          later : (k x : ℕ) → k < x → finite k ≡ finite x → ⊥
          later k x l q = omega (arith, time_inj q)

          more : {a b : ℕ} → a ≤ b → b < length s → suc a ≤ size
          more p q = omega (arith, h)

  -- With u itself.
  pub way_short : (u left : ℕ) → u < n → d u ≡ finite left → length (way_after d arcs left u) < n
  way_short u left b e =
      let s = remove u (up_to n) in
      let shorter = remove_lt u (up_to n) (→up_to n u b) in
      let all : Nearest left s = λ v k i f l. remove_mem u v (up_to n) (→up_to n v i) (λ q. later k left l (sym f ∙ (ap d q ∙ e))) in
      omega (arith, few_after left (length s) left u s e all (omega arith), length-range 0 n)
    where
      later : (k x : ℕ) → k < x → finite k ≡ finite x → ⊥
      later k x l q = omega (arith, time_inj q)
