-- The way by the words of a search from its end that stopped when its first node was settled. Assumes nothing.
use Prim.Native.Nat.{ℕ, ◌+◌, ◌≤◌, ◌<◌}
use native.Mathlib.Nat.{zero-add, add-zero}
use native.Mathlib.Omega.{arith}
use mathlib.Core.Path.{◌≡◌, refl, sym, ap, ◌∙◌}
use mathlib.Core.Bool.{Bool, true, false, cond}
use mathlib.Core.List.{List, [], ◌∷◌, Memᴰ}
use lib.ListN.{set, replicate, length-replicate}
use lib.Seq.{get_or-set_same}
use lib.Dec.{eqb}
use borrow.Author.Tests.{ne_eqb}
use Rattle.model.specs.Walk.{Arc, Mem, stay}
use Rattle.model.specs.Distance.{Distance, unreachable, finite, plus, agree, dist}
use Rattle.model.specs.Oracle.{no_walk, coded, decoded}
use Rattle.model.specs.Query.{way_from, way_after}
use Rattle.theory.specs.Walks.{Within, Positive}
use Rattle.theory.specs.Exact.{time_least}
use Rattle.theory.specs.RangeLaws.{get_d_map_range}
use Rattle.algorithms.specs.Dijkstra.{at}
use Rattle.algorithms.specs.Rounds.{distance_words}
use Rattle.algorithms.specs.Stops.{Stopped}
use Rattle.sheet.specs.Under.{still_driven}
use Rattle.arcs.proofs.Bodies.{Bounded}
use Rattle.words.specs.Regions.{times_in}
use Rattle.way.specs.Distances.{distance_in, way_in}
use Rattle.way.proofs.Words.{word_in}
use Rattle.opened.specs.TimesFrom.{way_over}
use Rattle.opened.proofs.SearchWords.{itself_none}
use Rattle.opened.proofs.EarlyWays.{after_same, driven_same}

-- A node that is no nearer is not next, as every arc costs something.
not_tight : (c x y : ℕ) → 0 < c → y ≤ x → agree (plus (finite c) (decoded x)) (decoded y) ≡ false
unfolding agree plus decoded
not_tight c x y p l = pick (eqb x no_walk) (eqb y no_walk)
  where
    pick : (a b : Bool) → agree (plus (finite c) (cond a unreachable (finite x))) (cond b unreachable (finite y)) ≡ false
    pick true b = refl
    pick false true = refl
    pick false false = ne_eqb (c + x) y (λ e. omega arith)

late : (arcs : List Arc) (n t v : ℕ) → v < n → distance_in (distance_words arcs n t) v ≡ decoded (coded (dist arcs n t v))
unfolding distance_in distance_words
late arcs n t v i = ap decoded (get_d_map_range (λ v. coded (dist arcs n t v)) no_walk 0 n v i ∙ rw zero-add)

module _ (arcs : List Arc) (n t : ℕ) (within : Within n arcs) (positive : Positive arcs) (t_in : t < n) (want d order : List ℕ)
    (found : Stopped arcs n t want d order) where
  abbrev all : List ℕ
  all = distance_words arcs n t

  early : (v : ℕ) → v < n → distance_in d v ≡ decoded (at d v)
  unfolding distance_in
  early v i = ap decoded (word_in d v no_walk 0 (omega (arith, found.words)))

  exact_same : (v : ℕ) → v < n → at d v ≡ coded (dist arcs n t v) → distance_in d v ≡ distance_in all v
  exact_same v i e = early v i ∙ (ap decoded e ∙ sym (late arcs n t v i))

  same : (v : ℕ) → Memᴰ v order → distance_in d v ≡ distance_in all v
  same v m = exact_same v (found.inside v m) (found.exact v m).0

  loose : (a : Arc) → Mem a arcs → Memᴰ a.from order → (Memᴰ a.to order → ⊥)
      → (agree (plus (finite a.cost) (distance_in d a.to)) (distance_in d a.from) ≡ false)
      × (agree (plus (finite a.cost) (distance_in all a.to)) (distance_in all a.from) ≡ false)
  loose a i m out =
      let f = within a i in
      let r = found.rest a.to f.1 out a.from m in (
        rw (early a.to f.1, early a.from f.0) (not_tight a.cost (at d a.to) (at d a.from) (positive a i) r.0),
        rw (
          late arcs n t a.to f.1,
          late arcs n t a.from f.0,
        ) (not_tight a.cost (coded (dist arcs n t a.to)) (coded (dist arcs n t a.from)) (positive a i)
            (omega (arith, (found.exact a.from m).0, r.1))),
      )

  module _ (s : ℕ) (s_in : s < n) (wanted : 0 < at want s) where
    from_same : Memᴰ s order → (x : Distance) → way_from (distance_in d) arcs x s ≡ way_from (distance_in all) arcs x s
    unfolding way_from
    from_same m unreachable = refl
    from_same m (finite k) = ap (λ (l : List ℕ). s ∷ l) (after_same arcs (distance_in d) (distance_in all) order same loose k s m)

    pub way_early : way_in d arcs s ≡ way_in all arcs s
    way_early = ap (λ (x : Distance). way_from (distance_in d) arcs x s) (exact_same s s_in (found.wanted s s_in wanted)) ∙ pick (dist arcs n t s) refl
      where
        pick : (p : Distance) → dist arcs n t s ≡ p → way_from (distance_in d) arcs (distance_in all s) s ≡ way_from (distance_in all) arcs (distance_in all s) s
        pick unreachable e = rw (late arcs n t s s_in, e) (unfold way_from coded decoded in refl)
        pick (finite k) e =
            let l = time_least arcs n t s within t_in k e in
            from_same (found.search.enough l.has stay (rw add-zero l) wanted) (distance_in all s)

    -- Steps are driven alike too: the nodes of the way are settled.
    from_driven : (new : List Arc) → Memᴰ s order → (x : Distance)
        → still_driven (distance_in d) new (way_from (distance_in d) arcs x s) ≡ still_driven (distance_in all) new (way_from (distance_in all) arcs x s)
    unfolding way_from still_driven
    from_driven new m unreachable = refl
    from_driven new m (finite k) = driven_same arcs (distance_in d) (distance_in all) order same loose new k s m

    pub driven_early : (new : List Arc) → still_driven (distance_in d) new (way_in d arcs s) ≡ still_driven (distance_in all) new (way_in all arcs s)
    driven_early new =
        ap (λ (x : Distance). still_driven (distance_in d) new (way_from (distance_in d) arcs x s)) (exact_same s s_in (found.wanted s s_in wanted))
        ∙ pick (dist arcs n t s) refl
      where
        pick : (p : Distance) → dist arcs n t s ≡ p → still_driven (distance_in d) new (way_from (distance_in d) arcs (distance_in all s) s)
            ≡ still_driven (distance_in all) new (way_from (distance_in all) arcs (distance_in all s) s)
        pick unreachable e = rw (late arcs n t s s_in, e) (unfold way_from coded decoded still_driven in refl)
        pick (finite k) e =
            let l = time_least arcs n t s within t_in k e in
            from_driven new (found.search.enough l.has stay (rw add-zero l) wanted) (distance_in all s)

-- The same of the one node s: by a search from t that ended at s, the way from s is the way to t.
there : (n s : ℕ) → s < n → 0 < at (set (replicate {A = ℕ} n 0) s 1) s
there n s s_in = omega (arith, get_or-set_same (replicate {A = ℕ} n 0) s 1 0 (omega (arith, length-replicate {A = ℕ} n 0)))

module _ (arcs : List Arc) (n : ℕ) (fair : Bounded n arcs) (s t : ℕ) (s_in : s < n) (t_in : t < n) (w order : List ℕ)
    (found : Stopped arcs n t (set (replicate n 0) s 1) (times_in n w) order) where
  pub stopped_way : way_in (times_in n w) arcs s ≡ way_over arcs n s t
  unfolding way_over
  stopped_way = way_early arcs n t fair.within fair.positive t_in (set (replicate n 0) s 1) (times_in n w) order found s s_in (there n s s_in)

  -- And its every step can be driven by the words of the search just where it can be by the distances.
  pub stopped_driven : (new : List Arc)
      → still_driven (distance_in (times_in n w)) new (way_in (times_in n w) arcs s) ≡ still_driven (distance_in (distance_words arcs n t)) new (way_over arcs n s t)
  unfolding way_over
  stopped_driven new =
      driven_early arcs n t fair.within fair.positive t_in (set (replicate n 0) s 1) (times_in n w) order found s s_in (there n s s_in) new

-- The way from a node to itself.
pub way_itself : (arcs : List Arc) (n : ℕ) → Within n arcs → (s : ℕ) → s < n → way_over arcs n s s ≡ s ∷ []
unfolding way_over
way_itself arcs n within s h =
    let e = late arcs n s s h ∙ ap (λ (x : Distance). decoded (coded x)) (itself_none arcs n within s h) in
    ap (λ (x : Distance). way_from (distance_in (distance_words arcs n s)) arcs x s) e ∙ (unfold way_from way_after coded decoded in refl)
