-- The far theorem for the model's networks: the least sum over the access nodes of two far nodes is their distance. Assumes nothing.
use Rattle.std.specs.Prelude.{ℕ, ◌+◌, ◌*◌, ◌≤◌, ◌<◌, min, ◌≡◌, ◌≢◌, ◌⊎◌, Bool, false, ◌&&◌, length}
use Rattle.std.proofs.Common.{add_comm, arith, ◌∙◌, ap, inl, inr}
use Rattle.std.proofs.Math.Nat.{min_comm}
use Rattle.std.proofs.Math.Decide.{dec_le}
use Rattle.std.proofs.Math.Path.{refl, sym}
use Rattle.std.proofs.Math.Bool.{true, xor}
use mathlib.Core.List.Memᴰ
use mathlib.Core.List.{List, [], ◌∷◌, Memᴰ}
use Rattle.model.specs.Lists.{any, member, up_to}
use Rattle.model.specs.Pair.{key}
use Rattle.model.specs.Walk.{Arc, Walk, Least}
use Rattle.theory.specs.Walks.{Within, Symmetric, reverse, least_stay}
use Rattle.model.specs.Distance.{Distance, unreachable, finite, plus, agree, IsLeast}
use Rattle.theory.specs.Exact.{time_least, none_no_walk, dist_symmetric}
use Rattle.model.specs.Network.{Edge, Network, order, arcs_of, arcs, distance}
use Rattle.model.specs.Grid.{Grid, Cell, cell_at, within}
use Rattle.model.specs.Access.{crossing_end, crosses, crossings, between, access_nodes}
use Rattle.theory.specs.Tests.{true-eqb, and}
use Rattle.theory.specs.Least.{meets_unique}
use Rattle.theory.specs.Far.{Square, Crossing, Through, Nest}
use Rattle.theory.specs.FarGrid.{square, Apart, nest, disjoint, swap}
use Rattle.theory.specs.FarOver.{over, far_over}
use Rattle.theory.specs.Members.{filter→, →filter, →any, →map, concat_map→, →concat_map, →member, →up_to, range→}

-- the crossing end of an arc, which is that of its edge
abbrev pub pick : Arc → ℕ
pick a = min a.from a.to

pick_end : (a : Arc) → (pick a ≡ a.from) ⊎ (pick a ≡ a.to)
pick_end a = step (dec_le a.from a.to)
  where
    step : Dec (a.from ≤ a.to) → (pick a ≡ a.from) ⊎ (pick a ≡ a.to)
    step (yes h) = inl (omega arith)
    step (no h) = inr (omega arith)

differ : (b c : Bool) → b ≢ c → xor b c ≡ true
unfolding xor
differ true true h = absurd (h refl)
differ true false h = refl
differ false true h = refl
differ false false h = absurd (h refl)

differ_back : (b c : Bool) → c ≢ b → xor b c ≡ true
differ_back b c h = differ b c (λ e. h (sym e))

module _ (net : Network) (ends : (e : Edge) → Memᴰ e net.edges → (e.first < order net) × (e.second < order net)) where
  -- an arc is one direction of an edge
  pub edge_of : {a : Arc} → Memᴰ a (arcs net) → (e : Edge) × Memᴰ e net.edges × Memᴰ a (arcs_of e)
  unfolding arcs
  edge_of m = concat_map→ arcs_of net.edges m

  pub inside : Within (order net) (arcs net)
  unfolding arcs_of
  inside a m = let r = edge_of m in step r.0 (ends r.0 r.1) (Memᴰ.cases_cons r.2)
    where
      step : (e : Edge) → (e.first < order net) × (e.second < order net)
          → (a ≡ record { from = e.first; to = e.second; cost = key e.seconds 1 }) ⊎ Memᴰ a
          (record { from = e.second; to = e.first; cost = key e.seconds 1 } ∷ [])
          → (a.from < order net) × (a.to < order net)
      step e h (inl q) = (rw (ap (λ x. x.from) q) h.0, rw (ap (λ x. x.to) q) h.1)
      step e h (inr m) = let q = Memᴰ.eq_of_singleton m in (rw (ap (λ x. x.from) q) h.1, rw (ap (λ x. x.to) q) h.0)

  symmetric : Symmetric (arcs net)
  unfolding arcs arcs_of
  symmetric a m = let r = edge_of m in step r.0 r.1 (Memᴰ.cases_cons r.2)
    where
      step : (e : Edge) → Memᴰ e net.edges
          → (a ≡ record { from = e.first; to = e.second; cost = key e.seconds 1 }) ⊎ Memᴰ a
          (record { from = e.second; to = e.first; cost = key e.seconds 1 } ∷ [])
          → Memᴰ (reverse a) (arcs net)
      step e k (inl q) = →concat_map arcs_of net.edges k (Memᴰ.tail (Memᴰ.head (ap reverse q)))
      step e k (inr m) = →concat_map arcs_of net.edges k (Memᴰ.head (ap reverse (Memᴰ.eq_of_singleton m)))

  -- the distance is exact
  pub exact : (u t : ℕ) → u < order net → IsLeast (Walk (arcs net) u t) (distance net u t)
  unfolding distance
  exact u t h = step (distance net u t) refl
    where
      step : (x : Distance) → distance net u t ≡ x → IsLeast (Walk (arcs net) u t) x
      step unreachable e = none_no_walk (arcs net) (order net) u t inside h e
      step (finite n) e = let l = time_least (arcs net) (order net) u t inside h n e in l

  pub distance_least : {u t n : ℕ} → u < order net → Least (arcs net) u t n → distance net u t ≡ finite n
  distance_least {u} {t} {n} h l = meets_unique (Walk (arcs net) u t) (distance net u t) (finite n) (exact u t h) l

  -- From a node to itself the walk with no arc is the least.
  pub distance_itself : (u : ℕ) → u < order net → distance net u u ≡ finite 0
  distance_itself u h = distance_least h (least_stay u)

  -- "Roads run both ways": the distance from a node is the distance to it. What goes by that cites this law: the access nodes for entering are those
  -- for leaving (below), a list's distances from its node are those to it (Built), and a search from a way's end finds the distances to it (the way).
  pub both_ways : (u t : ℕ) → u < order net → t < order net → distance net u t ≡ distance net t u
  unfolding distance
  both_ways u t p q = dist_symmetric (arcs net) (order net) u t inside symmetric p q

  module _ (cs : List Cell) (size : length cs ≡ order net) where
    abbrev pub col : ℕ → ℕ
    col v = (cell_at cs v).column

    abbrev pub row : ℕ → ℕ
    row v = (cell_at cs v).row

    -- the square of radius r about the cell of node c
    abbrev pub sq : ℕ → ℕ → Square
    sq r c = square col row r c

    -- an edge with one end inside gives its crossing end
    crossing_edge : (r c : ℕ) (e : Edge) → Memᴰ e net.edges → xor (sq r c e.first) (sq r c e.second) ≡ true
        → Memᴰ (crossing_end e) (crossings cs net.edges r (cell_at cs c))
    unfolding crossings crosses square within
    crossing_edge r c e m h = →map crossing_end _ (→filter (crosses cs r (cell_at cs c)) net.edges m h)

    crossing_in : (r c : ℕ) {x : ℕ} → Crossing (arcs net) pick (sq r c) x → Memᴰ x (crossings cs net.edges r (cell_at cs c)) × (x < order net)
    unfolding arcs_of
    crossing_in r c {x} k = let w = edge_of k.listed in step w.0 w.1 (Memᴰ.cases_cons w.2)
      where
        end : (e : Edge) → Memᴰ e net.edges → x ≡ crossing_end e → xor (sq r c e.first) (sq r c e.second) ≡ true
            → Memᴰ x (crossings cs net.edges r (cell_at cs c)) × (x < order net)
        end e m q h = (Memᴰ.cast q (crossing_edge r c e m h), unfold crossing_end in omega (arith, q, ends e m))

        step : (e : Edge) → Memᴰ e net.edges
            → (k.arc ≡ record { from = e.first; to = e.second; cost = key e.seconds 1 }) ⊎ Memᴰ k.arc
            (record { from = e.second; to = e.first; cost = key e.seconds 1 } ∷ [])
            → Memᴰ x (crossings cs net.edges r (cell_at cs c)) × (x < order net)
        step e m (inl q) =
            let apart : sq r c e.first ≢ sq r c e.second = λ z. k.across (ap (λ a. sq r c a.from) q ∙ (z ∙ sym (ap (λ a. sq r c a.to) q))) in
            end e m (k.picked ∙ (ap pick q ∙ unfold crossing_end in refl)) (differ _ _ apart)
        step e m (inr n) =
            let q = Memᴰ.eq_of_singleton n in
            let apart : sq r c e.second ≢ sq r c e.first = λ z. k.across (ap (λ a. sq r c a.from) q ∙ (z ∙ sym (ap (λ a. sq r c a.to) q))) in
            end e m (k.picked ∙ (ap pick q ∙ unfold crossing_end in min_comm e.second e.first)) (differ_back _ _ apart)

    between_true : (p q x : ℕ) {i j : ℕ} → distance net p x ≡ finite i → distance net x q ≡ finite j → distance net p q ≡ finite (i + j)
        → between (distance net) p q x ≡ true
    unfolding between agree plus
    between_true p q x {i = i} {j = j} a b c = rw (a, b, c) (true-eqb {m = i + j} refl)

    module _ (grid : Grid) where
      -- the crossing nodes of the cell of c, of inner and of outer
      abbrev own : ℕ → List ℕ
      own c = crossings cs net.edges 0 (cell_at cs c)

      abbrev inner : ℕ → List ℕ
      inner c = crossings cs net.edges grid.inner (cell_at cs c)

      abbrev outer : ℕ → List ℕ
      outer c = crossings cs net.edges grid.outer (cell_at cs c)

      -- the access nodes of that cell
      abbrev pub access : ℕ → List ℕ
      access c = access_nodes (distance net) grid cs net.edges (cell_at cs c)

      -- a crossing node of inner between one of the cell and one of outer is listed
      listed : (c : ℕ) {x p q : ℕ} → Crossing (arcs net) pick (sq 0 c) p → Crossing (arcs net) pick (sq grid.inner c) x
          → Crossing (arcs net) pick (sq grid.outer c) q → between (distance net) p q x ≡ true → Memᴰ x (access c)
      unfolding access_nodes
      listed c {x} {p} {q} hp hx hq b =
          let a = crossing_in grid.inner c hx in
          →filter (λ a. member a (inner c) && any (λ p. any (λ q. between (distance net) p q a) (outer c)) (own c)) (up_to (length cs))
          (→up_to (length cs) x (omega (arith, size, a.1)))
          (and (→member x (inner c) a.0)
          (→any (λ p. any (λ q. between (distance net) p q x) (outer c)) (own c) (crossing_in 0 c hp).0
          (→any (λ q. between (distance net) p q x) (outer c) (crossing_in grid.outer c hq).0 b)))

      -- an access node for leaving the cell of c is listed
      leaving_in : (c : ℕ) {x : ℕ} → Through (arcs net) pick (sq 0 c) (sq grid.inner c) (sq grid.outer c) x → Memᴰ x (access c)
      leaving_in c {x} h =
          let a = (crossing_in grid.inner c h.crossing).1 in
          let p = (crossing_in 0 c h.start).1 in
          listed c h.start h.crossing h.end (between_true h.p h.q x (distance_least p h.before) (distance_least a h.after)
          (distance_least p h.whole))

      -- and so is one for entering it, for roads run both ways
      entering_in : (c : ℕ) {x : ℕ} → Through (arcs net) pick (sq grid.outer c) (sq grid.inner c) (sq 0 c) x → Memᴰ x (access c)
      entering_in c {x} h =
          let a = (crossing_in grid.inner c h.crossing).1 in
          let p = (crossing_in grid.outer c h.start).1 in
          let q = (crossing_in 0 c h.end).1 in
          listed c h.end h.crossing h.start
          (between_true h.q h.p x
          (both_ways h.q x q a ∙ distance_least a h.after) (both_ways x h.p a p ∙ distance_least p h.before)
          (both_ways h.q h.p q p ∙ distance_least p (rw add_comm h.whole)))

      -- the access nodes are nodes
      pub access_node : (c : Cell) {x : ℕ} → Memᴰ x (access_nodes (distance net) grid cs net.edges c) → x < order net
      unfolding access_nodes
      access_node c {x} m = omega (arith, size, range→ 0 (length cs) x (filter→ _ (up_to (length cs)) m).0)

      -- the far theorem, for all radii with outer at least twice inner
      pub far_model : 2 * grid.inner ≤ grid.outer → (s t : ℕ) → s < order net → t < order net → Apart col row grid.outer s t →
          over (distance net s) (distance net) (λ b. distance net b t) (access s) (access t) ≡ distance net s t
      far_model wide s t hs ht apart =
          meets_unique (Walk (arcs net) s t) _ (distance net s t)
          (far_over (arcs net) pick pick_end (sq 0 s) (sq grid.inner s) (sq grid.outer s) (sq 0 t) (sq grid.inner t) (sq grid.outer t) s t
          ns nt away _ _ (distance net s) (distance net) (λ b. distance net b t)
          (λ x h. leaving_in s h) (λ x h. entering_in t h)
          (λ a m. exact s a hs) (λ a b m k. exact a b (access_node (cell_at cs s) m)) (λ b k. exact b t (access_node (cell_at cs t) k)))
          (exact s t hs)
        where
          ns : Nest (sq 0 s) (sq grid.inner s) (sq grid.outer s) s t
          ns = nest col row grid.inner grid.outer s t wide apart

          nt : Nest (sq 0 t) (sq grid.inner t) (sq grid.outer t) t s
          nt = nest col row grid.inner grid.outer t s wide (swap col row grid.outer s t apart)

          away : (x : ℕ) → sq grid.inner s x ≡ true → sq grid.inner t x ≡ false
          away = disjoint col row grid.inner grid.outer s t wide apart
