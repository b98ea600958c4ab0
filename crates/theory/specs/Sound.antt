-- What rules 3 to 7 give of nodes, edges and arcs. Assumes nothing.
use Rattle.std.specs.Prelude.{ℕ, ◌+◌, ◌*◌, ◌/◌, ◌%◌, ◌≤◌, ◌<◌, ◌≡◌, refl, ◌⊎◌, true, false, ◌||◌, eqb, leb}
use Rattle.std.proofs.Common.{arith, ◌∙◌, subst, sym, inl, inr}
use Rattle.std.proofs.Math.Bool.{not}
use mathlib.Core.List.Memᴰ
use mathlib.Core.List.{List, [], ◌∷◌, Memᴰ}
use Rattle.std.proofs.Math.ListN.{length}
use Rattle.std.proofs.lemmas.List.{length-map}
use Rattle.std.proofs.Math.Dec.{ltb}
use borrow.Author.Tests.{leb-false, lt-leb, ltb-false, le-ltb, ltb-true, eqb-true, eqb-false, ne_eqb}
use Rattle.model.specs.Lists.{any, rising, up_to, concat_map}
use Rattle.model.specs.Bytes.{Bytes, number_size, words16}
use Rattle.model.specs.Contents.{node_body, edge_body, closed_body}
use Rattle.model.specs.Pair.{key}
use Rattle.model.specs.Walk.{Arc, Mem}
use Rattle.theory.specs.Walks.{Costs, Within, Positive}
use Rattle.model.specs.Distance.{Distance, unreachable, finite}
use Rattle.theory.specs.Exact.{dist_bound}
use Rattle.model.specs.Network.{Edge, Network, network, nodes, edges, edge, order, node_count, edge_count, arcs, arcs_of, distance}
use Rattle.model.specs.Network.{nodes_broken, edge_broken}
use Rattle.model.specs.Network.{some_edge_broken, edges_broken, numbers_broken, max_nodes, max_edges, max_seconds, node_size, edge_size}
use Rattle.theory.specs.RangeLaws.{length-range}
use Rattle.theory.specs.ReadLaws.{Small}
use Rattle.theory.specs.Tests.{both}
use Rattle.theory.specs.Members.{none_any, map→, →map, range→, →up_to, concat_map→}
use Rattle.theory.specs.Passed.{or-false, not-false, Sound}

-- ---- a rising list of numbers below m has at most m
rising_few : (m x : ℕ) (l : List ℕ) → rising (x ∷ l) ≡ true → any (leb m) (x ∷ l) ≡ false → x + length (x ∷ l) ≤ m
unfolding rising any
rising_few m x [] h a = let z : x < m = leb-false m x (or-false (leb m x) false a).0 in omega arith
rising_few m x (y ∷ l) h a =
    let p = both {b = ltb x y} h in
    let z : x < y = ltb-true x y p.0 in
    let r = rising_few m y l p.1 (or-false (leb m x) (any (leb m) (y ∷ l)) a).1 in
    omega arith

few_rising : (m : ℕ) (l : List ℕ) → rising l ≡ true → any (leb m) l ≡ false → length l ≤ m
few_rising m [] h a = omega arith
few_rising m (x ∷ l) h a = omega (arith, rising_few m x l h a)

-- Numbers that keep rule 7 or 9 are no more than what they may name.
pub few_numbers : (m : ℕ) (b : Bytes) → numbers_broken m b ≡ false → length b / number_size ≤ m
unfolding numbers_broken words16
few_numbers m b h =
    let ws : List ℕ = words16 b in
    let p = or-false (not (eqb (length b % number_size) 0) || not (rising ws)) (any (leb m) ws) h in
    let q = or-false (not (eqb (length b % number_size) 0)) (not (rising ws)) p.0 in
    let count : length ws ≡ length b / number_size = length-map (up_to (length b / number_size)) _ ∙ length-range 0 (length b / number_size) in
    omega (arith, few_rising m ws (not-false q.1) p.1)

-- ---- edges
-- An edge that keeps rule 6.
pub record Fine (n : ℕ) (e : Edge) : Type 0 where
  pub first_in : e.first < n
  pub second_in : e.second < n
  pub apart : e.first ≡ e.second → ⊥
  pub at_most : e.seconds ≤ max_seconds

kept_fine : (n : ℕ) (e : Edge) → edge_broken n e ≡ false → Fine n e
unfolding edge_broken
kept_fine n e a =
    let p = or-false (leb n e.first || leb n e.second || eqb e.first e.second) (ltb max_seconds e.seconds) a in
    let r = or-false (leb n e.first || leb n e.second) (eqb e.first e.second) p.0 in
    let s = or-false (leb n e.first) (leb n e.second) r.0 in
    record {
      first_in = leb-false n e.first s.0;
      second_in = leb-false n e.second s.1;
      apart = eqb-false e.first e.second r.1;
      at_most = ltb-false max_seconds e.seconds p.1;
    }

pub fine_kept : (n : ℕ) (e : Edge) → Fine n e → edge_broken n e ≡ false
unfolding edge_broken
fine_kept n e h =
    rw (lt-leb n e.first h.first_in, lt-leb n e.second h.second_in, ne_eqb e.first e.second h.apart)
    (le-ltb max_seconds e.seconds h.at_most)

-- The edges of a body are those with the numbers below their count.
pub edge_listed : (b : Bytes) (i : ℕ) → i < edge_count b → Memᴰ (edge b i) (edges b)
unfolding edges
edge_listed b i h = →map (edge b) (up_to (edge_count b)) (→up_to (edge_count b) i h)

pub edge_numbered : (b : Bytes) {e : Edge} → Memᴰ e (edges b) → (i : ℕ) × (i < edge_count b) × (e ≡ edge b i)
unfolding edges
edge_numbered b m = let (i, h, q) = map→ (edge b) (up_to (edge_count b)) m in (i, omega (arith, range→ 0 (edge_count b) i h), q)

module _ (n : ℕ) (b : Bytes) (ok : some_edge_broken n b ≡ false) where
  pub edge_fine : (i : ℕ) → i < edge_count b → Fine n (edge b i)
  unfolding some_edge_broken
  edge_fine i l = kept_fine n (edge b i) (none_any (edge_broken n) (edges b) ok (edge_listed b i l))

  pub each_fine : (e : Edge) → Memᴰ e (edges b) → Fine n e
  unfolding some_edge_broken
  each_fine e m = kept_fine n e (none_any (edge_broken n) (edges b) ok m)

-- ---- arcs
-- The most that an arc costs.
abbrev pub max_cost : ℕ
max_cost = key max_seconds 1

-- What holds of each edge's ends and key, in either order of the ends, holds of each arc.
pub arc_of : (P : ℕ → ℕ → ℕ → Type 0) (es : List Edge) → ((e : Edge) → Memᴰ e es → P e.first e.second (key e.seconds 1))
    → ((e : Edge) → Memᴰ e es → P e.second e.first (key e.seconds 1))
    → (a : Arc) → Mem a (concat_map arcs_of es) → P a.from a.to a.cost
unfolding arcs_of
arc_of P es there back a m = let r = concat_map→ arcs_of es m in step r.0 r.1 (Memᴰ.cases_cons r.2)
  where
    step : (e : Edge) → Memᴰ e es
        → (a ≡ record { from = e.first; to = e.second; cost = key e.seconds 1 })
        ⊎ Mem a (record { from = e.second; to = e.first; cost = key e.seconds 1 } ∷ [])
        → P a.from a.to a.cost
    step e h (inl q) = subst (λ (a : Arc). P a.from a.to a.cost) (sym q) (there e h)
    step e h (inr k) = subst (λ (a : Arc). P a.from a.to a.cost) (sym (Memᴰ.eq_of_singleton k)) (back e h)

module _ (n : ℕ) (es : List Edge) (fine : (e : Edge) → Memᴰ e es → Fine n e) where
  pub arcs_within : Within n (concat_map arcs_of es)
  arcs_within = arc_of (λ u v c. (u < n) × (v < n)) es (λ e m. ((fine e m).first_in, (fine e m).second_in)) (λ e m. ((fine e m).second_in, (fine e m).first_in))

  pub arcs_cost : Costs max_cost (concat_map arcs_of es)
  arcs_cost = arc_of (λ u v c. c ≤ max_cost) es (λ e m. omega (arith, (fine e m).at_most)) (λ e m. omega (arith, (fine e m).at_most))

  pub arcs_positive : Positive (concat_map arcs_of es)
  arcs_positive = arc_of (λ u v c. 0 < c) es (λ e m. omega arith) (λ e m. omega arith)

-- ---- the network of a file
pub count_nodes : (f : Bytes) → order (network f) ≡ node_count (node_body f)
unfolding order network nodes
count_nodes f = length-map (up_to (node_count (node_body f))) _ ∙ length-range 0 (node_count (node_body f))

-- Distances stay far below 'no walk' where no arc costs more than a road may.
pub net_near : (net : Network) → order net ≤ max_nodes → Within (order net) (arcs net) → Costs max_cost (arcs net)
    → (u t : ℕ) → u < order net → Small (distance net u t)
unfolding distance
net_near net few within costs u t h = step (distance net u t) refl
  where
    step : (x : Distance) → distance net u t ≡ x → Small x
    step unreachable e = tt
    step (finite k) e = omega (arith, few, dist_bound (arcs net) (order net) u t within h max_cost k costs e)

module _ (f : Bytes) (ok : Sound f) where
  abbrev n : ℕ
  n = node_count (node_body f)

  fine : (e : Edge) → Memᴰ e (network f).edges → Fine (order (network f)) e
  unfolding network
  fine e m = rw (count_nodes f) (each_fine n (edge_body f) ok.some_edge e m)

  pub ends : (e : Edge) → Memᴰ e (network f).edges → (e.first < order (network f)) × (e.second < order (network f))
  ends e m = ((fine e m).first_in, (fine e m).second_in)

  pub within : Within (order (network f)) (arcs (network f))
  unfolding arcs
  within = arcs_within (order (network f)) (network f).edges fine

  pub costs : Costs max_cost (arcs (network f))
  unfolding arcs
  costs = arcs_cost (order (network f)) (network f).edges fine

  pub positive : Positive (arcs (network f))
  unfolding arcs
  positive = arcs_positive (order (network f)) (network f).edges fine

  pub node_bytes : (n ≤ max_nodes) × (0 < n) × (length (node_body f) ≤ node_size * max_nodes)
  unfolding nodes_broken node_count
  node_bytes =
      let p = or-false (not (eqb (length (node_body f) % node_size) 0) || ltb n 1) (ltb max_nodes n) ok.nodes_rule in
      let q = or-false (not (eqb (length (node_body f) % node_size) 0)) (ltb n 1) p.0 in
      let a : n ≤ max_nodes = ltb-false max_nodes n p.1 in
      let l : 1 ≤ n = ltb-false n 1 q.1 in
      let b : length (node_body f) % node_size ≡ 0 = eqb-true _ _ (not-false q.0) in
      (a, l, omega arith)

  pub few : order (network f) ≤ max_nodes
  few = rw (count_nodes f) node_bytes.0

  pub near : (u t : ℕ) → u < order (network f) → Small (distance (network f) u t)
  near = net_near (network f) few within costs

  pub edge_bytes : (edge_count (edge_body f) ≤ max_edges) × (length (edge_body f) ≤ edge_size * max_edges)
  unfolding edges_broken edge_count
  edge_bytes =
      let p = or-false (not (eqb (length (edge_body f) % edge_size) 0)) (ltb max_edges (length (edge_body f) / edge_size)) ok.edges_rule in
      let a : length (edge_body f) / edge_size ≤ max_edges = ltb-false max_edges _ p.1 in
      let b : length (edge_body f) % edge_size ≡ 0 = eqb-true _ _ (not-false p.0) in
      (a, omega arith)

  pub closed_bytes : length (closed_body f) ≤ number_size * max_edges
  unfolding numbers_broken
  closed_bytes =
      let even = (or-false (not (eqb (length (closed_body f) % number_size) 0) || not (rising (words16 (closed_body f))))
      (any (leb (edge_count (edge_body f))) (words16 (closed_body f))) ok.closed).0 in
      let e : length (closed_body f) % number_size ≡ 0 = eqb-true _ _ (not-false
      (or-false (not (eqb (length (closed_body f) % number_size) 0)) (not (rising (words16 (closed_body f)))) even).0) in
      omega (arith, few_numbers (edge_count (edge_body f)) (closed_body f) ok.closed, edge_bytes.0)
