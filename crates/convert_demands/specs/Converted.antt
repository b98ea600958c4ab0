-- What the converter writes: the bodies of the converted file, its edges and numbers, and that it is the same network. Assumes nothing.
use Prim.Native.Nat.{ℕ, ◌+◌, ◌*◌, ◌%◌, ◌≤◌, ◌<◌, ◌/◌}
use native.Mathlib.Omega.{arith}
use Rattle.std.proofs.Math.Nat.{zero-add}
use Rattle.std.specs.Prelude.{◌≡◌, true, false, ◌||◌, drop, ltb, leb}
use Rattle.std.proofs.Math.Path.{refl, sym, ap}
use Rattle.std.proofs.Common.{◌∙◌}
use Rattle.std.proofs.Math.Bool.{not}
use mathlib.Core.List.{List, [], ◌∷◌, map, Memᴰ}
use Rattle.std.proofs.Math.ListN.{length, get_or, length-map, length-drop}
use Rattle.std.proofs.Math.Seq.{length-take-le}
use Rattle.std.proofs.Math.Dec.{eqb}
use borrow.Author.Tests.{le-ltb, eq-eqb, eqb-true}
use Rattle.model.specs.Lists.{range, up_to, any, filter, concat_map, member, rising, gapless, all}
use Rattle.model.specs.Bytes.{Bytes, number_size, words16, word16, cut}
use Rattle.model.specs.Contents.{node_body, edge_body, closed_body, body, body_part, entry, entry_at, file, of_its_kind, contents_broken, bodies_broken}
use Rattle.model.specs.Contents.{network_edition, network_entries}
use Rattle.model.specs.Network.{Edge, network, nodes, edges, edge, edge_count, node_count, max_edges, edges_broken}
use Rattle.model.specs.Network.{edge_broken, some_edge_broken, numbers_broken, closed_listed}
use Rattle.model.specs.Grid.{grid_broken}
use Rattle.model.specs.Rules.{first_broken, network_rules, plain_rules, accepted}
use Rattle.model.specs.declared.Division.{Division}
use Rattle.theory.specs.Tests.{both}
use Rattle.theory.specs.RangeLaws.{length-range}
use Rattle.theory.specs.ReadLaws.{map_range}
use Rattle.theory.specs.Members.{filter→, map→, length-filter, none_any, get_d_mem, range→}
use Rattle.theory.specs.Shape.{any_none}
use Rattle.theory.specs.NetworkFile.{its_length, its_nodes, its_edges, its_closed, its_contents, its_bodies}
use Rattle.theory.specs.Passed.{Sound, none_listed, or-false, not-false, passed_all}
use Rattle.theory.specs.Sound.{edge_listed, node_bytes, edge_bytes}
use Rattle.theory.specs.Joined.{body_within}
use Rattle.theory.specs.Whole.{AreBytes, whole_file}
use Rattle.convert.specs.Old.{closed_in, is_open, open_of, open_in, old_network}
use Rattle.convert.specs.Convert.{edge_record, open_records, converted, new_number}
use Rattle.convert.proofs.Counts.{kept_number, has_number, open_count}
use Rattle.convert_demands.specs.Copied.{Inside, records_size, count_copied, record_copied, edge_copied, all_copied}

-- ---- with no closed edge, all are open
each_open : (l : List ℕ) → filter (is_open []) l ≡ l
unfolding filter is_open member
each_open [] = refl
each_open (x ∷ l) = ap (λ r. x ∷ r) (each_open l)

no_words : words16 [] ≡ []
unfolding words16 range
no_words = refl

pub plain_closed : (f : Bytes) → closed_listed (closed_body f) ≡ false → closed_in f ≡ []
unfolding closed_in
plain_closed f h = rw (none_listed (closed_body f) h) no_words

pub plain_open : (f : Bytes) → closed_listed (closed_body f) ≡ false → open_in f ≡ up_to (edge_count (edge_body f))
unfolding open_in
plain_open f h = rw (plain_closed f h) (unfold open_of in each_open (up_to (edge_count (edge_body f))))

-- ---- the converted network
module _ (f : Bytes) (sound : Sound f) where
  abbrev b : Bytes
  b = edge_body f

  abbrev open_ones : List ℕ
  open_ones = open_in f

  abbrev kept : Bytes
  kept = open_records b (closed_in f)

  -- Rule 7.
  seven : (length (closed_body f) % number_size ≡ 0) × (rising (closed_in f) ≡ true) × (any (leb (edge_count b)) (closed_in f) ≡ false)
  unfolding numbers_broken closed_in
  seven =
      let c = closed_body f in
      let p = or-false (not (eqb (length c % number_size) 0) || not (rising (words16 c))) (any (leb (edge_count b)) (words16 c)) sound.closed in
      let q = or-false (not (eqb (length c % number_size) 0)) (not (rising (words16 c))) p.0 in
      (eqb-true _ _ (not-false q.0), not-false q.1, p.1)

  pub rises : rising (closed_in f) ≡ true
  rises = seven.1

  inside : Inside b open_ones
  unfolding open_in open_of
  inside i m = omega (arith, range→ 0 (edge_count b) i (filter→ (is_open (closed_in f)) (up_to (edge_count b)) m).0)

  kept-is : kept ≡ concat_map (edge_record b) open_ones
  unfolding open_records open_in
  kept-is = refl

  few : length open_ones ≤ max_edges
  unfolding open_in open_of
  few = omega (arith, length-filter (is_open (closed_in f)) (up_to (edge_count b)), length-range 0 (edge_count b), (edge_bytes f sound).0)

  kept_size : length kept ≡ 8 * length open_ones
  kept_size = ap length kept-is ∙ records_size b open_ones inside

  few_bytes : length (node_body f) + length kept + 0 ≤ 1_000_000
  few_bytes = omega (arith, kept_size, few, (node_bytes f sound).2)

  pub node_body_law : node_body (converted f) ≡ node_body f
  unfolding converted
  node_body_law = its_nodes (node_body f) kept [] few_bytes

  pub kept_body : edge_body (converted f) ≡ kept
  unfolding converted
  kept_body = its_edges (node_body f) kept [] few_bytes

  edge_body_law : edge_body (converted f) ≡ concat_map (edge_record b) open_ones
  edge_body_law = kept_body ∙ kept-is

  pub closed_body_law : closed_body (converted f) ≡ []
  unfolding converted
  closed_body_law = its_closed (node_body f) kept [] few_bytes

  -- Its edges: the open ones, as they stand, in order.
  pub edge_count_law : edge_count (edge_body (converted f)) ≡ length open_ones
  edge_count_law = rw edge_body_law (count_copied b open_ones inside)

  pub record_at : (j : ℕ) → j < length open_ones → edge_record (edge_body (converted f)) j ≡ edge_record b (get_or open_ones j 0)
  record_at j h = rw edge_body_law (record_copied b open_ones inside j h)

  pub edge_at : (j : ℕ) → j < length open_ones → edge (edge_body (converted f)) j ≡ edge b (get_or open_ones j 0)
  edge_at j h = rw edge_body_law (edge_copied b open_ones inside j h)

  edges_same : edges (edge_body (converted f)) ≡ map (edge b) open_ones
  unfolding edges
  edges_same = rw edge_count_law (map_range (edge (edge_body (converted f))) (edge b) 0 0 open_ones (λ i q. rw zero-add (edge_at i q)))

  pub same_network : network (converted f) ≡ old_network f
  unfolding network old_network
  same_network = λ i. record { nodes = nodes (node_body_law i); edges = edges_same i }

  -- "Gives each remaining road its old number less the closed ones before it."
  module _ (i : ℕ) (h : i < edge_count b) (o : is_open (closed_in f) i ≡ true) where
    pub place : (new_number (closed_in f) i < length open_ones) × (get_or open_ones (new_number (closed_in f) i) 0 ≡ i)
    unfolding open_in open_of
    place = has_number (closed_in f) rises (edge_count b) i h o

    pub number_below : new_number (closed_in f) i < edge_count (edge_body (converted f))
    number_below = rw edge_count_law place.0

    pub record_renumbered : edge_record (edge_body (converted f)) (new_number (closed_in f) i) ≡ edge_record b i
    record_renumbered = record_at (new_number (closed_in f) i) place.0 ∙ ap (edge_record b) place.1

    pub edge_renumbered : edge (edge_body (converted f)) (new_number (closed_in f) i) ≡ edge b i
    edge_renumbered = edge_at (new_number (closed_in f) i) place.0 ∙ ap (edge b) place.1

  -- Each new number is that of an open edge.
  pub number_taken : (j : ℕ) → j < edge_count (edge_body (converted f))
      → (i : ℕ) × (i < edge_count b) × (is_open (closed_in f) i ≡ true) × (new_number (closed_in f) i ≡ j)
  unfolding open_in open_of
  number_taken j h =
      let q : j < length open_ones = rw edge_count_law at h in
      let there = get_d_mem open_ones j 0 q in (
        get_or open_ones j 0,
        inside (get_or open_ones j 0) there,
        (filter→ (is_open (closed_in f)) (up_to (edge_count b)) there).1,
        kept_number (closed_in f) rises (edge_count b) j q,
      )

  pub counts : edge_count (edge_body (converted f)) + length (closed_in f) ≡ edge_count b
  unfolding open_in open_of
  counts = rw edge_count_law (open_count (closed_in f) rises (edge_count b) seven.2)

  -- ---- its rules
  pub listed_none : closed_listed (closed_body (converted f)) ≡ false
  unfolding closed_listed
  listed_none = rw closed_body_law

  each_fine : (e : Edge) → Memᴰ e (map (edge b) open_ones) → edge_broken (node_count (node_body f)) e ≡ false
  each_fine e m =
      let r = map→ (edge b) open_ones m in
      let i = edge_listed b r.0 (inside r.0 r.1) in
      rw r.2 (none_any (edge_broken (node_count (node_body f))) (edges b) (unfold some_edge_broken in sound.some_edge) i)

  edges_fine : edges_broken (edge_body (converted f)) ≡ false
  unfolding edges_broken
  edges_fine =
      let n : ℕ = length (edge_body (converted f)) in
      let z : n % 8 ≡ 0 = omega (arith, ap length edge_body_law, records_size b open_ones inside) in
      rw (edge_count_law, eq-eqb (n % 8) 0 z) (le-ltb max_edges (length open_ones) few)

  some_fine : some_edge_broken (node_count (node_body (converted f))) (edge_body (converted f)) ≡ false
  unfolding some_edge_broken
  some_fine = rw (node_body_law, edges_same) (any_none (edge_broken (node_count (node_body f))) (map (edge b) open_ones) each_fine)

  closed_fine : numbers_broken (edge_count (edge_body (converted f))) (closed_body (converted f)) ≡ false
  closed_fine = rw closed_body_law (unfold numbers_broken words16 range rising any in refl)

  pub sound_new : Sound (converted f)
  sound_new = record {
    nodes_rule = rw node_body_law sound.nodes_rule;
    coordinates = rw node_body_law sound.coordinates;
    edges_rule = edges_fine;
    some_edge = some_fine;
    closed = closed_fine;
  }

  contents_new : contents_broken network_edition network_entries (converted f) ≡ false
  unfolding converted
  contents_new = its_contents (node_body f) kept [] few_bytes

  bodies_new : bodies_broken network_entries (converted f) ≡ false
  unfolding converted
  bodies_new = its_bodies (node_body f) kept [] few_bytes

  pub accepted_new : (dv : Division) → grid_broken dv.g ≡ false → accepted (converted f) dv ≡ true
  accepted_new dv g = passed_all (converted f) dv (record { contents = contents_new; bodies = bodies_new; sound = sound_new; plain = listed_none; grid = g })

  pub no_rule : first_broken (plain_rules network_edition network_entries (converted f)) ≡ 0
  unfolding network_rules first_broken
  no_rule =
      let s = sound_new in
      rw (contents_new, bodies_new, s.nodes_rule, s.coordinates, s.edges_rule, s.some_edge, s.closed, listed_none)

  -- ---- where body 3 is empty, nothing is left out
  even : length b % 8 ≡ 0
  unfolding edges_broken
  even = eqb-true _ _ (not-false (or-false (not (eqb (length b % 8) 0)) (ltb max_edges (edge_count b)) sound.edges_rule).0)

  pub all_kept : closed_listed (closed_body f) ≡ false → kept ≡ b
  all_kept h = kept-is ∙ (rw (plain_open f h) (all_copied b even))

-- ---- the length
edge_size : (f : Bytes) → edge_count (edge_body f) ≡ length (edge_body f) / 8
unfolding edge_count
edge_size f = refl

module _ (f : Bytes) (parts : bodies_broken network_entries f ≡ false) where
  body_length : (k : ℕ) → k < 3 → length (body f k) ≡ (body_part f k).size
  unfolding body cut body_part
  body_length k h =
      let l = body_within f network_entries k parts h in
      length-take-le (entry f k).size (drop (entry f k).offset f) (omega (arith, length-drop (entry f k).offset f))

  whole_length : length f ≡ 29 + length (node_body f) + length (edge_body f) + length (closed_body f)
  unfolding bodies_broken entry_at gapless range
  whole_length =
      let size : ℕ → ℕ = λ k. (body_part f k).size in
      let start : ℕ → ℕ = λ k. (body_part f k).start in
      let a = (both {b = all (of_its_kind f) (up_to network_entries)} (not-false parts)).1 in
      let b = (both {b = eqb (start 0) 29} a).1 in
      let c = (both {b = eqb (start 1) (29 + size 0)} b).1 in
      let d = (both {b = eqb (start 2) (29 + size 0 + size 1)} c).1 in
      omega (
        arith,
        eqb-true (29 + size 0 + size 1 + size 2) (length f) d,
        body_length 0 (omega arith),
        body_length 1 (omega arith),
        body_length 2 (omega arith),
      )

  -- A closed edge had 8 bytes, and 2 in the closed list.
  pub shorter : Sound f → length (converted f) + 10 * length (closed_in f) ≡ length f
  unfolding converted closed_in words16
  shorter sound =
      let b = edge_body f in
      let c = closed_body f in
      let k : Bytes = open_records b (closed_in f) in
      omega (
        arith,
        whole_length,
        its_length (node_body f) k [],
        kept_size f sound,
        edge_count_law f sound,
        counts f sound,
        length-map (range 0 (length c / number_size)) (λ i. word16 c (number_size * i)),
        length-range 0 (length c / number_size),
        even f sound,
        (seven f sound).0,
        edge_size f,
      )

written : (f : Bytes) → converted f ≡ file network_edition (node_body f ∷ open_records (edge_body f) (closed_in f) ∷ [] ∷ [])
unfolding converted
written f = refl

-- Converted twice, it is as converted once.
pub twice : (f : Bytes) → Sound f → converted (converted f) ≡ converted f
twice f sound =
    let g : Bytes = converted f in
    let e : open_records (edge_body g) (closed_in g) ≡ open_records (edge_body f) (closed_in f) =
    all_kept g (sound_new f sound) (listed_none f sound) ∙ kept_body f sound in
    written g ∙ (rw (e, node_body_law f sound) (sym (written f)))

pub unchanged : (f : Bytes) → AreBytes f → contents_broken network_edition network_entries f ≡ false → bodies_broken network_entries f ≡ false → Sound f
    → closed_listed (closed_body f) ≡ false → converted f ≡ f
unfolding converted
unchanged f are c p sound plain =
    let e : closed_body f ≡ [] = none_listed (closed_body f) plain in
    let whole : f ≡ file network_edition (node_body f ∷ edge_body f ∷ closed_body f ∷ []) = unfold range in whole_file f are network_edition network_entries c p in
    rw (all_kept f sound plain) (ap (λ (x : Bytes). file network_edition (node_body f ∷ edge_body f ∷ x ∷ [])) (sym e) ∙ sym whole)
