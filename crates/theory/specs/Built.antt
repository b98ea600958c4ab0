-- What a built oracle answers: the distance, over the access nodes for a far pair. Assumes nothing.
use Rattle.std.specs.Prelude.{ℕ, zero, suc, ◌*◌, ◌≤◌, ◌<◌, ◌≡◌, refl, length, get_or}
use Rattle.std.proofs.Common.{arith, ◌∙◌, ap, subst}
use Rattle.std.proofs.Math.Nat.{le_trans}
use mathlib.Core.List.{List, [], ◌∷◌, map, Memᴰ}
use Rattle.std.proofs.Math.ListN.{length-map}
use Rattle.model.specs.Lists.{any, member, up_to, index_of, concat_map}
use Rattle.model.specs.Bytes.{Bytes, bytes16}
use Rattle.model.specs.Contents.{body, file, oracle_edition, node_body, edge_body, closed_body, grid_body, transit_body, access_body, table_body}
use Rattle.model.specs.Distance.{Distance, plus, sooner, soonest}
use Rattle.model.specs.Network.{Edge, network, order, distance}
use Rattle.model.specs.Grid.{Grid, Cell, cells, cell_at, cell_of, grid_over, division, division_bytes, kind_of}
use Rattle.model.specs.Access.{access_nodes, access_lists, transit_nodes}
use Rattle.model.specs.Oracle.{oracle, access_list, access_bytes, table_bytes, transit_count}
use Rattle.model.specs.Query.{sum_by, far_distance, local_answer, kind_between, answer, answer_of, time_answer}
use Rattle.theory.specs.RangeLaws.{length-range}
use Rattle.theory.specs.FileLaws.{body_file, length_file, concat_bound}
use Rattle.theory.specs.ReadLaws.{Small, entry_of, list_read, table_read, length_numbers}
use Rattle.model.specs.declared.Division.{Division}
use Rattle.model.specs.declared.Kind.TheVariants.{Local}
use Rattle.theory.specs.Members.{length-filter, →filter, →any, →member, →up_to, get_d_mem, index_of_law}
use Rattle.theory.specs.FarOver.{over}
use Rattle.theory.specs.FarModel.{both_ways, access_node}

-- ---- lists

pub soonest_map : {A B : Type 0} (f : B → Distance) (g : A → B) (l : List A) → soonest f (map g l) ≡ soonest (λ x. f (g x)) l
unfolding soonest
soonest_map f g [] = refl
soonest_map f g (x ∷ l) = ap (sooner (f (g x))) (soonest_map f g l)

pub soonest_same : {A : Type 0} (f g : A → Distance) (l : List A) → ((x : A) → Memᴰ x l → f x ≡ g x) → soonest f l ≡ soonest g l
unfolding soonest
soonest_same f g [] h = refl
soonest_same f g (x ∷ l) h = rw (h x (Memᴰ.head refl), soonest_same f g l (λ y m. h y (Memᴰ.tail m)))

pub get_d_map_in : {A B : Type 0} (f : A → B) (l : List A) (i : ℕ) (a : A) (b : B) → i < length l → get_or (map f l) i b ≡ f (get_or l i a)
get_d_map_in f [] i a b h = absurd (omega arith)
get_d_map_in f (x ∷ l) zero a b h = refl
get_d_map_in f (x ∷ l) (suc i) a b h = get_d_map_in f l i a b (omega arith)

-- ---- what building goes by

abbrev pub grid_of : Bytes → Division → Grid
grid_of f dv = grid_over dv (network f).nodes

abbrev pub cells_of : Bytes → Division → List Cell
cells_of f dv = cells (grid_of f dv) (network f).nodes

abbrev pub lists_of : Bytes → Division → List (List ℕ)
lists_of f dv = access_lists (network f) (grid_of f dv)

abbrev pub transit_of : Bytes → Division → List ℕ
transit_of f dv = transit_nodes (order (network f)) (lists_of f dv)

-- the access nodes of the cell of u
abbrev pub access_of : Bytes → Division → ℕ → List ℕ
access_of f dv u = access_nodes (distance (network f)) (grid_of f dv) (cells_of f dv) (network f).edges (cell_at (cells_of f dv) u)

-- what is asked of a network and a division (acceptance gives it)
pub record Good (f : Bytes) (dv : Division) : Type 0 where
  pub ends : (e : Edge) → Memᴰ e (network f).edges → (e.first < order (network f)) × (e.second < order (network f))
  pub near : (u t : ℕ) → u < order (network f) → Small (distance (network f) u t)
  pub few : order (network f) ≤ 4096
  pub reads : division (division_bytes dv) ≡ dv
  pub wide : 2 * (grid_of f dv).inner ≤ (grid_of f dv).outer
  pub small : length (oracle f dv) < 4294967296

module _ (f : Bytes) (dv : Division) where
  pub count_cells : length (cells_of f dv) ≡ order (network f)
  unfolding cells order
  count_cells = length-map (network f).nodes (cell_of (grid_of f dv))

  pub count_lists : length (lists_of f dv) ≡ order (network f)
  unfolding access_lists
  count_lists = length-map (cells_of f dv) (access_nodes (distance (network f)) (grid_of f dv) (cells_of f dv) (network f).edges) ∙ count_cells

  pub list_of_law : (u : ℕ) → u < order (network f) → get_or (lists_of f dv) u [] ≡ access_of f dv u
  unfolding access_lists cell_at
  list_of_law u h = get_d_map_in (access_nodes (distance (network f)) (grid_of f dv) (cells_of f dv) (network f).edges) (cells_of f dv) u
      (record { column = 0; row = 0 }) [] (rw count_cells h)

  pub few_transit : length (transit_of f dv) ≤ order (network f)
  unfolding transit_nodes
  few_transit = omega (arith, length-filter (λ a. any (member a) (lists_of f dv)) (up_to (order (network f))), length-range 0 (order (network f)))

  pub few_access : (u : ℕ) → length (access_of f dv u) ≤ order (network f)
  unfolding access_nodes
  few_access u = le_trans (length-filter _ (up_to (length (cells_of f dv)))) (omega (arith, length-range 0 (length (cells_of f dv)), count_cells))

module _ (f : Bytes) (dv : Division) (good : Good f dv) where
  abbrev o : Bytes
  o = oracle f dv

  abbrev N : ℕ
  N = order (network f)

  abbrev d : ℕ → ℕ → Distance
  d = distance (network f)

  abbrev bodies : List Bytes
  bodies =
      node_body f ∷ edge_body f ∷ closed_body f ∷ division_bytes dv ∷ concat_map bytes16 (transit_of f dv) ∷
      access_bytes d (transit_of f dv) (lists_of f dv) ∷ table_bytes d (transit_of f dv) ∷ []

  pub bodies_of : (k : ℕ) → k < 7 → body o k ≡ get_or bodies k []
  unfolding oracle
  bodies_of k h = body_file oracle_edition bodies k h (unfold oracle in good.small)

  pub same_network : network o ≡ network f
  unfolding network
  same_network = rw (bodies_of 0 (omega arith), bodies_of 1 (omega arith))

  pub same_division : division (grid_body o) ≡ dv
  same_division = ap division (bodies_of 3 (omega arith)) ∙ good.reads

  pub same_kind : (s t : ℕ) → kind_between o s t ≡ kind_of (grid_of f dv) (cell_at (cells_of f dv) s) (cell_at (cells_of f dv) t)
  unfolding kind_between network
  same_kind s t = rw (bodies_of 0 (omega arith), same_division)

  -- ---- the lists and the table

  -- an access node of a node's cell is a transit node
  pub in_transit : (u : ℕ) → u < N → {a : ℕ} → Memᴰ a (access_of f dv u) → Memᴰ a (transit_of f dv)
  unfolding transit_nodes
  in_transit u h {a} m =
      →filter (λ a. any (member a) (lists_of f dv)) (up_to N) (→up_to N a (access_node (network f) good.ends (cells_of f dv) (count_cells f dv) (grid_of f dv)
      (cell_at (cells_of f dv) u) m))
      (→any (member a) (lists_of f dv) (get_d_mem (lists_of f dv) u [] (rw (count_lists f dv) h)) (rw (list_of_law f dv u h) (→member a (access_of f dv u) m)))

  pub access_small : length (access_bytes d (transit_of f dv) (lists_of f dv)) < 4294967296
  access_small = let small : length (file oracle_edition bodies) < 4294967296 = unfold oracle in good.small in omega
      (arith, length_file oracle_edition bodies, concat_bound 5 bodies (omega arith))

  pub list_built : (u : ℕ) → u < N → access_list (access_body o) u ≡ map (entry_of d (transit_of f dv) u) (access_of f dv u)
  list_built u h =
      ap (λ (b : Bytes). access_list b u) (bodies_of 5 (omega arith)) ∙
      (list_read d (transit_of f dv) (lists_of f dv) u (rw (count_lists f dv) h) access_small
      (rw (list_of_law f dv u h) (omega (arith, few_access f dv u, good.few)))
      (λ i q. omega (
        arith,
        (index_of_law (get_or (get_or (lists_of f dv) u []) i 0) (transit_of f dv)
            (in_transit u h (subst (λ (l : List ℕ). Memᴰ (get_or (get_or (lists_of f dv) u []) i 0) l) (list_of_law f dv u h)
            (get_d_mem (get_or (lists_of f dv) u []) i 0 q)))).0,
        (few_transit f dv),
        good.few,
      ))
      (λ i q. good.near u _ h) ∙
      ap (map (entry_of d (transit_of f dv) u)) (list_of_law f dv u h))

  pub count_transit : transit_count (transit_body o) ≡ length (transit_of f dv)
  unfolding transit_count
  count_transit = rw (bodies_of 4 (omega arith)) (omega (arith, length_numbers (transit_of f dv)))

  -- ---- the far answer

  -- the sum over two entries is the sum of distances: the second list has d(t, b), which is d(b, t) as roads run both ways
  sum_built : (s t : ℕ) → s < N → t < N → (a b : ℕ) → Memᴰ a (access_of f dv s) → Memᴰ b (access_of f dv t) →
      sum_by (table_bytes d (transit_of f dv)) (length (transit_of f dv)) (entry_of d (transit_of f dv) s a) (entry_of d (transit_of f dv) t b) ≡ plus (d s a)
      (plus (d a b) (d b t))
  unfolding sum_by
  sum_built s t hs ht a b ma mb =
      let ia = index_of_law a (transit_of f dv) (in_transit s hs ma) in
      let ib = index_of_law b (transit_of f dv) (in_transit t ht mb) in
      let na : a < N = access_node (network f) good.ends (cells_of f dv) (count_cells f dv) (grid_of f dv) (cell_at (cells_of f dv) s) ma in
      let nb : b < N = access_node (network f) good.ends (cells_of f dv) (count_cells f dv) (grid_of f dv) (cell_at (cells_of f dv) t) mb in
      let small : Small (d (get_or (transit_of f dv) (index_of a (transit_of f dv)) 0) (get_or (transit_of f dv) (index_of b (transit_of f dv)) 0)) = rw
      (ia.1, ib.1) (good.near a b na) in
      rw (
        table_read d (transit_of f dv) (index_of a (transit_of f dv)) (index_of b (transit_of f dv)) ia.0 ib.0 small,
        ia.1,
        ib.1,
        both_ways (network f)
            good.ends t b ht nb,
      )

  pub far_sum : (s t : ℕ) → s < N → t < N →
      far_distance (table_body o) (transit_count (transit_body o)) (access_list (access_body o) s) (access_list (access_body o) t) ≡ over (d s) d (λ b. d b t)
      (access_of f dv s) (access_of f dv t)
  unfolding far_distance over
  far_sum s t hs ht =
      rw (bodies_of 6 (omega arith), count_transit, list_built s hs, list_built t ht)
      (soonest_map _ (entry_of d (transit_of f dv) s) (access_of f dv s) ∙
      soonest_same _ _ (access_of f dv s) (λ a ma. soonest_map _ (entry_of d (transit_of f dv) t) (access_of f dv t) ∙
      soonest_same _ _ (access_of f dv t) (λ b mb. sum_built s t hs ht a b ma mb)))

  -- ---- the time

  pub time_local : (s t : ℕ) → kind_between o s t ≡ Local → time_answer o s t ≡ answer Local 0 (d s t)
  unfolding time_answer local_answer answer_of
  time_local s t k = rw (k, same_network)
