-- The crossing nodes of a square, by the edges at the nodes inside it. Assumes nothing.
use Prim.Native.Nat.{ℕ, ◌+◌, ◌≤◌, ◌<◌}
use native.Mathlib.Omega.{arith}
use native.Mathlib.Decide.{ℕ_discrete}
use mathlib.Core.Path.{◌≡◌, refl, sym, ap, ◌∙◌, subst}
use mathlib.Core.Logic.{◌⊎◌, inl, inr, ⊎_elim}
use mathlib.Core.Bool.{Bool, true, false, cond, false≢true}
use mathlib.Core.List.Memᴰ
use mathlib.Core.List.{List, [], ◌∷◌, ◌++◌, Memᴰ}
use lib.ListN.{length, set, drop, replicate}
use lib.Seq.{get_or-set_same, get_or-set_other}
use Rattle.model.specs.Lists.{up_to}
use Rattle.model.specs.Bytes.{Bytes}
use Rattle.model.specs.Network as net
use Rattle.model.specs.Network.{node, node_count, edge, edge_count, some_edge_broken}
use Rattle.model.specs.Grid as model
use Rattle.model.specs.Access.{crossing_end, crosses, crossings}
use Rattle.theory.specs.Transit.{one_of}
use Rattle.theory.specs.Tests.{same_test}
use Rattle.theory.specs.Members.{map→, →map, filter→, →filter, →up_to, range→}
use Rattle.theory.specs.Members as lists
use Rattle.algorithms.specs.Settle.{blank}
use Rattle.bitset.specs.Bits.{set_words}
use Rattle.bitset.proofs.Members.{length_flags}
use Rattle.grid.specs.Squares.{SquareOf, reaches_node}
use Rattle.grid.specs.declared.Grid.{Grid}
use Rattle.grid.specs.declared.square.Square.{Square}
use Rattle.index.specs.Index.{Incident, IndexedEdges}
use Rattle.index.proofs.Laid.{roads_only}
use Rattle.crossing.specs.Sets.{member_flags}
use Rattle.crossing.specs.SetLaws.{flags_test, test_flags_same}
use Rattle.crossing.specs.Ground.{cells_in, edges_in, Ground}
use Rattle.crossing.specs.Beside.{crosses_square}
use Rattle.crossing.proofs.Crossed.{crosses_same}
use Rattle.marks.specs.Due.{Flagged}
use Rattle.words.specs.Regions.{region_at, region_flags, index_at}
use Rattle.access.specs.Crossed.{CrossingOf, Put}
use Rattle.access.proofs.Flagging.{member→, →member}
use Rattle.words.specs.Frames.{Only, KeptFrom}
use Rattle.words.proofs.Stays.{kept_more, only_same, only_then}
use Rattle.theory.specs.Sound.{edge_fine}
use Rattle.arcs.specs.declared.cursor.Cursor.{Cursor}
use Rattle.arcs.specs.Cursor.{Valid, PassedEdges, Stepped}
use Rattle.arcs.proofs.Kept.{valid_kept, passing_kept}
use Rattle.arcs.proofs.Step.{mem_split}
use Rattle.arcs.proofs.Same.{passing_all}

-- ---- a flag is set
module _ (l : List ℕ) (v : ℕ) where
  set_here : v < length l → Flagged (set l v 1) v
  set_here h = omega (arith, get_or-set_same l v 1 0 h)

  set_stays : v < length l → (x : ℕ) → Flagged l x → Flagged (set l v 1) x
  set_stays h x f = pick (ℕ_discrete x v)
    where
      pick : Dec (x ≡ v) → Flagged (set l v 1) x
      pick (yes e) = rw e (set_here h)
      pick (no d) = omega (arith, get_or-set_other l v x 1 0 d)

  set→ : (x : ℕ) → Flagged (set l v 1) x → Flagged l x ⊎ (x ≡ v)
  set→ x f = pick (ℕ_discrete x v)
    where
      pick : Dec (x ≡ v) → Flagged l x ⊎ (x ≡ v)
      pick (yes e) = inr e
      pick (no d) = inl (omega (arith, get_or-set_other l v x 1 0 d))

-- Edge j is open and has an end below v that lies inside the square.
pub record Inside (nodes edges : Bytes) (s : Square) (v j : ℕ) : Type 0 where
  pub u : ℕ
  pub below : u < v
  pub real : Incident edges u j
  pub inside : reaches_node s (node nodes u) ≡ true

module _ (nodes edges : Bytes) (s : Square) (n k : ℕ) where
  abbrev PutOf : (ℕ → Type 0) → List ℕ → List ℕ → Type 0
  PutOf of w w' = Put nodes edges s of n k w w'

  -- ---- of no edge, of fewer edges, of these and then of those
  put_none : (of : ℕ → Type 0) (w : List ℕ) → ((j : ℕ) → of j → ⊥) → PutOf of w w
  put_none of w h = record { others = only_same _ _ w; stays = λ x f. f; real = λ x f. inl f; full = λ j o. absurd (h j o) }

  put_less : (of of' : ℕ → Type 0) (w w' : List ℕ) → ((j : ℕ) → of' j → crosses_square nodes s (edge edges j) ≡ true → of j) → PutOf of w w' → PutOf of' w w'
  put_less of of' w w' h p = record { others = p.others; stays = p.stays; real = p.real; full = λ j o e. p.full j (h j o e) e }

  put_then : (of of' : ℕ → Type 0) (w x y : List ℕ) → PutOf of w x → PutOf of' x y → PutOf (λ j. of j ⊎ of' j) w y
  put_then of of' w x y p q = record {
    others = only_then _ _ w x y p.others q.others;
    stays = λ z f. q.stays z (p.stays z f);
    real = λ z f. ⊎_elim (λ g. p.real z g) (λ c. inr c) (q.real z f);
    full = λ j o e. ⊎_elim (λ a. q.stays _ (p.full j a e)) (λ b. q.full j b e) o;
  }

  -- ---- one edge
  put_one : (u i : ℕ) (w w' : List ℕ) → Incident edges u i → crossing_end (edge edges i) < n → Only n k w w'
      → region_flags n k w' ≡ cond (crosses_square nodes s (edge edges i)) (set (region_flags n k w) (crossing_end (edge edges i)) 1) (region_flags n k w)
      → PutOf (λ j. j ≡ i) w w'
  put_one u i w w' o l q e = pick (crosses_square nodes s (edge edges i)) refl
    where
      pick : (b : Bool) → crosses_square nodes s (edge edges i) ≡ b → PutOf (λ j. j ≡ i) w w'
      pick true c =
          let f : region_flags n k w' ≡ set (region_flags n k w) (crossing_end (edge edges i)) 1 = rw c at e in
          let h : crossing_end (edge edges i) < length (region_flags n k w) = rw (length_flags n (drop (region_at n k) w)) l in
          record {
            others = q;
            stays = λ x g. rw f (set_stays (region_flags n k w) (crossing_end (edge edges i)) h x g);
            real = λ x g. ⊎_elim (λ m. inl m) (λ t. inr (record { u = u; j = i; real = o; crosses = c; end = t }))
                (set→ (region_flags n k w) (crossing_end (edge edges i)) x (rw f at g));
            full = λ j t d. rw (f, t) (set_here (region_flags n k w) (crossing_end (edge edges i)) h);
          }
      pick false c =
          let f : region_flags n k w' ≡ region_flags n k w = rw c at e in
          record {
            others = q;
            stays = λ x g. rw f g;
            real = λ x g. inl (rw f at g);
            full = λ j t d. absurd
                (false≢true (sym c ∙ ap (λ (z : ℕ). crosses_square nodes s (edge edges z)) (sym t) ∙ d));
          }

  -- ---- the edges at v, as a cursor passes them
  pub record Walked (v : ℕ) (w₀ : List ℕ) (c : Cursor) (w : List ℕ) : Type 0 where
    pub done : List ℕ
    pub passing : PassedEdges edges n w v done c
    pub put : PutOf (λ j. Memᴰ j done) w₀ w

  module _ (v : ℕ) (w₀ : List ℕ) where
    pub walked_first : (c : Cursor) → PassedEdges edges n w₀ v [] c → Walked v w₀ c w₀
    walked_first c p = record { done = []; passing = p; put = put_none _ w₀ (λ j m. Memᴰ.not-nil m) }

    module _ (c : Cursor) (w : List ℕ) (g : Walked v w₀ c w) where
      module _ (h : region_at n k + set_words n ≤ index_at n) where
        -- w' are the words after the turn of an edge.
        module _ (w' : List ℕ) (o : Only n k w w') where
          index_same : KeptFrom (index_at n) w w'
          index_same = kept_more _ (index_at n) w w' h o.back

          pub walked_valid : Valid edges n w' v c
          walked_valid = valid_kept edges n w w' index_same v c g.passing.valid

          pub walked_roads : IndexedEdges edges n w₀ → IndexedEdges edges n w'
          walked_roads r = roads_only edges n w₀ w' _ _ h (only_then _ _ w₀ w w' g.put.others o) r

          pub walked_next : some_edge_broken n edges ≡ false → c.edge < edge_count edges
              → region_flags n k w' ≡ cond (crosses_square nodes s (edge edges c.edge)) (set (region_flags n k w) (crossing_end (edge edges c.edge)) 1)
              (region_flags n k w)
              → (c' : Cursor) → Stepped edges n w' v c c' → Walked v w₀ c' w'
          unfolding crossing_end
          walked_next ends l e c' t =
              let fine = edge_fine n edges ends c.edge l in
              let one = put_one v c.edge w w' (g.passing.valid.here l) (omega (arith, fine.first_in)) o e in
              record {
                done = g.done ++ c.edge ∷ [];
                passing = t.passing g.done (passing_kept edges n w w' index_same v c g.done g.passing);
                put = put_less _ _ w₀ w' (λ j m d. mem_split j c.edge g.done m) (put_then _ _ w₀ w w' g.put one);
              }

      pub walked_last : edge_count edges ≤ c.edge → PutOf (Incident edges v) w₀ w
      walked_last h = put_less _ _ w₀ w (λ j o d. (passing_all edges v g.done n w c h g.passing).full j o) g.put

  -- ---- the nodes below v
  module _ (w₀ : List ℕ) where
    pub inside_first : PutOf (Inside nodes edges s 0) w₀ w₀
    inside_first = put_none _ w₀ (λ j i. absurd (omega (arith, i.below)))

    module _ (v : ℕ) (w : List ℕ) (p : PutOf (Inside nodes edges s v) w₀ w) where
      pub inside_next : (w' : List ℕ) → PutOf (Incident edges v) w w' → PutOf (Inside nodes edges s (v + 1)) w₀ w'
      inside_next w' q = put_less _ _ w₀ w' (λ j i d. pick j i (ℕ_discrete i.u v)) (put_then _ _ w₀ w w' p q)
        where
          pick : (j : ℕ) (i : Inside nodes edges s (v + 1) j) → Dec (i.u ≡ v) → Inside nodes edges s v j ⊎ Incident edges v j
          pick j i (yes e) = inr (subst (λ (z : ℕ). Incident edges z j) e i.real)
          pick j i (no d) = inl (record { u = i.u; below = omega (arith, i.below, d); real = i.real; inside = i.inside })

      pub outside_next : false ≡ reaches_node s (node nodes v) → PutOf (Inside nodes edges s (v + 1)) w₀ w
      outside_next f = put_less _ _ w₀ w (λ j i d. pick j i (ℕ_discrete i.u v)) p
        where
          pick : (j : ℕ) (i : Inside nodes edges s (v + 1) j) → Dec (i.u ≡ v) → Inside nodes edges s v j
          pick j i (yes e) = absurd (false≢true (f ∙ ap (λ (z : ℕ). reaches_node s (node nodes z)) (sym e) ∙ i.inside))
          pick j i (no d) = record { u = i.u; below = omega (arith, i.below, d); real = i.real; inside = i.inside }

-- ---- at the end
module _ {nodes edges : Bytes} {grid : Grid} (on_ground : Ground nodes edges grid) (r : ℕ) (c : model.Cell) (s : Square) (q : SquareOf grid c r s)
    (n : ℕ) (size : n ≡ node_count nodes) where
  same : (j : ℕ) → j < edge_count edges → crosses_square nodes s (edge edges j) ≡ crosses (cells_in grid nodes) r c (edge edges j)
  same j h = let f = edge_fine (node_count nodes) edges on_ground.edges_rule j h in crosses_same on_ground.over r c s q (edge edges j) f.first_in
      f.second_in

  listed : (x : ℕ) → CrossingOf nodes edges s x → Memᴰ x (crossings (cells_in grid nodes) (edges_in edges) r c)
  unfolding crossings net.edges
  listed x o =
      let e = →map (edge edges) (up_to (edge_count edges)) (→up_to (edge_count edges) o.j o.real.below) in
      let m = →map crossing_end _ (→filter (crosses (cells_in grid nodes) r c) (edges_in edges) e (sym (same o.j o.real.below) ∙ o.crosses)) in
      subst (λ (z : ℕ). Memᴰ z (crossings (cells_in grid nodes) (edges_in edges) r c)) (sym o.end) m

  -- An edge that crosses has an end inside.
  end_inside : (j : ℕ) → j < edge_count edges → crosses_square nodes s (edge edges j) ≡ true → (v : ℕ) → n ≤ v
      → Inside nodes edges s v j
  unfolding crosses_square
  end_inside j h e v l =
      let f = edge_fine (node_count nodes) edges on_ground.edges_rule j h in
      ⊎_elim
      (λ i. record {
        u = (edge edges j).first;
        below = omega (arith, f.first_in, size, l);
        real = record { below = h; end = inl refl };
        inside = i;
      })
      (λ i. record {
        u = (edge edges j).second;
        below = omega (arith, f.second_in, size, l);
        real = record { below = h; end = inr refl };
        inside =
            i;
      })
      (one_of _ _ e)

  module _ (k : ℕ) (x : List ℕ) (z : region_flags n k x ≡ replicate n 0) (v : ℕ) (l : n ≤ v) (y : List ℕ)
      (p : Put nodes edges s (Inside nodes edges s v) n k x y) where
    found : (a : ℕ) → Memᴰ a (crossings (cells_in grid nodes) (edges_in edges) r c) → Flagged (region_flags n k y) a
    unfolding crossings net.edges
    found a m =
        let (e, i, t) = map→ crossing_end _ m in
        let (f, b) = filter→ (crosses (cells_in grid nodes) r c) (edges_in edges) i in
        let (j, u, g) = map→ (edge edges) (up_to (edge_count edges)) f in
        let h : j < edge_count edges = omega (arith, range→ 0 (edge_count edges) j u) in
        let over : crosses_square nodes s (edge edges j) ≡ true = same j h ∙ ap (crosses (cells_in grid nodes) r c) (sym g) ∙ b in
        subst (λ (b : ℕ). Flagged (region_flags n k y) b) (sym (t ∙ ap crossing_end g)) (p.full j (end_inside j h over v l) over)

    real : (a : ℕ) → Flagged (region_flags n k y) a → Memᴰ a (crossings (cells_in grid nodes) (edges_in edges) r c)
    real a f = ⊎_elim (λ g. let b : Flagged (replicate n 0) a = rw z at g in absurd (omega (arith, blank n a))) (λ o. listed a o) (p.real a f)

    pub crossings_put : region_flags n k y ≡ member_flags n (crossings (cells_in grid nodes) (edges_in edges) r c)
    unfolding member_flags
    crossings_put =
        flags_test n (drop (region_at n k) y) ∙ test_flags_same _ _ n (λ a h. same_test
        (λ i. lists.→member a _ (real a (→member n (drop (region_at n k) y) a h i)))
        (λ m. (member→ n (drop (region_at n k) y) a (found a (lists.member→ a _ m))).1))
