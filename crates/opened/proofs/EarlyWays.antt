-- The way by two kinds of distances that agree wherever it goes: those of a search that stopped early, and all. Assumes nothing.
use Prim.Native.Nat.{ℕ, zero, suc}
use native.Mathlib.Decide.{ℕ_discrete}
use mathlib.Core.Path.{◌≡◌, refl, sym, ap, ◌∙◌}
use mathlib.Core.Bool.{Bool, true, false, ◌&&◌, false≢true}
use mathlib.Core.List.Memᴰ
use mathlib.Core.List.{List, [], ◌∷◌, map, Memᴰ}
use mathlib.Core.Logic.{⊎_elim}
use lib.Dec.{eqb}
use borrow.Author.Tests.{eqb-true}
use Rattle.model.specs.Lists.{any, filter, member, least_of}
use Rattle.model.specs.Walk.{Arc, Mem}
use Rattle.model.specs.Distance.{Distance, finite, plus, agree}
use Rattle.model.specs.Query.{nexts, onward, way_after}
use Rattle.theory.specs.Tests.{both}
use Rattle.theory.specs.Extremes.{least_of_mem}
use Rattle.theory.specs.Members.{map→, filter→}
use Rattle.sheet.specs.Under.{still_driven}
use Rattle.way.proofs.Drives.{driving, some_drives}

-- ---- a number is in a list or not
pub in_list : (v : ℕ) (l : List ℕ) → Dec (Memᴰ v l)
in_list v [] = no (λ m. Memᴰ.not-nil m)
in_list v (x ∷ l) = pick (ℕ_discrete v x) (in_list v l)
  where
    pick : Dec (v ≡ x) → Dec (Memᴰ v l) → Dec (Memᴰ v (x ∷ l))
    pick (yes e) r = yes (Memᴰ.head e)
    pick (no n) (yes m) = yes (Memᴰ.tail m)
    pick (no n) (no k) = no (λ m. ⊎_elim n k (Memᴰ.cases_cons m))

-- ---- tests that agree on the members
filter_same : (f g : Arc → Bool) (es : List Arc) → ((a : Arc) → Mem a es → f a ≡ g a) → filter f es ≡ filter g es
unfolding filter
filter_same f g [] h = refl
filter_same f g (a ∷ es) h = rw (h a (Memᴰ.head refl), filter_same f g es (λ x m. h x (Memᴰ.tail m)))

-- Whether v is a next node of u goes by the distances of the two alone.
module _ (d e : ℕ → Distance) where
  and-false : (b : Bool) → b && false ≡ false
  and-false true = refl
  and-false false = refl

  pub member_same : (es : List Arc) (u v : ℕ) → d u ≡ e u → d v ≡ e v → member v (nexts d es u) ≡ member v (nexts e es u)
  unfolding any
  member_same es u v p q = sym (some_drives d u v es) ∙ (each es ∙ some_drives e u v es)
    where
      one : (a : Arc) → driving d u v a ≡ driving e u v a
      one a = pick (eqb v a.to) refl
        where
          pick : (b : Bool) → eqb v a.to ≡ b → driving d u v a ≡ driving e u v a
          pick true z = let f : v ≡ a.to = eqb-true v a.to z in rw (← f, p, q)
          pick false z = rw (
            z,
            and-false (eqb a.from u && agree (plus (finite a.cost) (d a.to)) (d u)),
            and-false (eqb a.from u && agree (plus (finite a.cost) (e a.to)) (e u)),
          )

      each : (es : List Arc) → any (driving d u v) es ≡ any (driving e u v) es
      each [] = refl
      each (a ∷ es) = rw (one a, each es)

-- d and e agree on the settled nodes, and by neither does a tight arc lead from a settled node to another.
module _ (es : List Arc) (d e : ℕ → Distance) (settled : List ℕ) where
  abbrev tight : (ℕ → Distance) → Arc → Bool
  tight f a = agree (plus (finite a.cost) (f a.to)) (f a.from)

  module _ (same : (v : ℕ) → Memᴰ v settled → d v ≡ e v)
      (loose : (a : Arc) → Mem a es → Memᴰ a.from settled → (Memᴰ a.to settled → ⊥) → (tight d a ≡ false) × (tight e a ≡ false)) where
    tight_same : (a : Arc) → Mem a es → Memᴰ a.from settled → tight d a ≡ tight e a
    tight_same a m r = pick (in_list a.to settled)
      where
        pick : Dec (Memᴰ a.to settled) → tight d a ≡ tight e a
        pick (yes k) = rw (same a.to k, same a.from r)
        pick (no k) = let l = loose a m r k in l.0 ∙ sym l.1

    abbrev next : (ℕ → Distance) → ℕ → Arc → Bool
    next f u a = eqb a.from u && agree (plus (finite a.cost) (f a.to)) (f u)

    next_same : (u : ℕ) → Memᴰ u settled → (a : Arc) → Mem a es → next d u a ≡ next e u a
    next_same u r a m = pick (eqb a.from u) refl
      where
        pick : (b : Bool) → eqb a.from u ≡ b → b && agree (plus (finite a.cost) (d a.to)) (d u) ≡ b && agree (plus (finite a.cost) (e a.to))
            (e u)
        pick false q = refl
        pick true q = let f : a.from ≡ u = eqb-true a.from u q in rw (← f) (tight_same a m (rw f r))

    nexts_same : (u : ℕ) → Memᴰ u settled → nexts d es u ≡ nexts e es u
    unfolding nexts
    nexts_same u r = ap (map (λ (a : Arc). a.to)) (filter_same (next d u) (next e u) es (next_same u r))

    -- The way goes on to settled nodes alone.
    next_settled : (u v : ℕ) → Memᴰ u settled → Memᴰ v (nexts e es u) → Memᴰ v settled
    unfolding nexts
    next_settled u v r m =
        let p = map→ (λ (a : Arc). a.to) (filter (next e u) es) m in
        let q = filter→ (next e u) es p.1 in
        let t = both {b = eqb p.0.from u} q.1 in
        let f : p.0.from ≡ u = eqb-true p.0.from u t.0 in
        rw p.2 (pick p.0 q.0 (rw f r) (rw f t.1) (in_list p.0.to settled))
      where
        pick : (a : Arc) → Mem a es → Memᴰ a.from settled → tight e a ≡ true → Dec (Memᴰ a.to settled) → Memᴰ a.to settled
        pick a i k h (yes g) = g
        pick a i k h (no g) = absurd (false≢true (sym (loose a i k g).1 ∙ h))

    pub after_same : (left u : ℕ) → Memᴰ u settled → way_after d es left u ≡ way_after e es left u
    unfolding way_after onward
    after_same zero u r = refl
    after_same (suc left) u r = rw (nexts_same u r) (pick (nexts e es u) (next_settled u) (λ v k. after_same left v k))
      where
        pick : (l : List ℕ) → ((v : ℕ) → Memᴰ u settled → Memᴰ v l → Memᴰ v settled)
            → ((v : ℕ) → Memᴰ v settled → way_after d es left v ≡ way_after e es left v)
            → onward l (λ v. v ∷ way_after d es left v) ≡ onward l (λ v. v ∷ way_after e es left v)
        pick [] h go = refl
        pick (v ∷ vs) h go = ap (λ (w : List ℕ). least_of v vs ∷ w) (go (least_of v vs) (h (least_of v vs) r (least_of_mem v vs)))

    -- Its steps are driven alike, over any arcs.
    pub driven_same : (new : List Arc) (left u : ℕ) → Memᴰ u settled
        → still_driven d new (u ∷ way_after d es left u) ≡ still_driven e new (u ∷ way_after e es left u)
    unfolding way_after onward still_driven
    driven_same new zero u r = refl
    driven_same new (suc left) u r = rw (nexts_same u r) (pick (nexts e es u) (next_settled u) (λ v k. driven_same new left v k))
      where
        pick : (l : List ℕ) → ((v : ℕ) → Memᴰ u settled → Memᴰ v l → Memᴰ v settled)
            → ((v : ℕ) → Memᴰ v settled → still_driven d new (v ∷ way_after d es left v) ≡ still_driven e new (v ∷ way_after e es left v))
            → still_driven d new (u ∷ onward l (λ v. v ∷ way_after d es left v)) ≡ still_driven e new (u ∷ onward l (λ v. v ∷ way_after e es left v))
        pick [] h go = refl
        pick (v ∷ vs) h go =
            let w = least_of v vs in
            let k = h w r (least_of_mem v vs) in
            rw (member_same d e new u w (same u r) (same w k)) (ap (λ (b : Bool). member w (nexts e new u) && b) (go w k))
