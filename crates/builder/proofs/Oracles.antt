-- The parts that are written, joined, are the oracle. Assumes nothing.
use Prim.Native.Nat.{ℕ, ◌+◌, ◌≤◌, ◌<◌}
use native.Mathlib.Omega.{arith}
use mathlib.Core.Path.{◌≡◌, refl, sym, ◌∙◌, ap}
use mathlib.Core.List.{List, [], ◌∷◌, ◌++◌, map, append-nil, append_assoc}
use lib.ListN.{length, drop, length-append, length-drop}
use lib.Seq.{drop_at}
use Rattle.model.specs.Lists.{range, up_to, concat}
use Rattle.model.specs.Bytes.{Bytes, bytes16, splice}
use Rattle.model.specs.Contents.{body, closed_body, file, entry_at, network_edition, network_entries, network_head, oracle_edition}
use Rattle.model.specs.Network.{network, distance}
use Rattle.model.specs.Grid.{division_bytes}
use Rattle.model.specs.Oracle.{oracle, transit_of, table_bytes}
use Rattle.model.specs.declared.Division.{Division}
use Rattle.theory.specs.Accepted.{good}
use Rattle.theory.specs.Passed.{none_listed}
use Rattle.theory.specs.Joined.{whole_contents}
use Rattle.theory.specs.ReadLaws.{length_table}
use Rattle.theory.specs.Whole.{AreBytes, whole_file}
use Rattle.grid.specs.declared.Grid.{Grid}
use Rattle.access.specs.Networks.{network_in, count_order}
use Rattle.emit.specs.Parts.{head_bytes, numbers_bytes}
use Rattle.emit.specs.PartLaws.{file_head, length_head, length_numbers}
use Rattle.emit.specs.Records.{Wrote}
use Rattle.passes.specs.Building.{transit_in, list_in}
use Rattle.passes.specs.BuildingLaws.{access_body_law}
use Rattle.passes.specs.Stands.{whole}
use Rattle.builder.specs.Plan.{back_size, sizes_in, whole_size, front_bytes, back_bytes}
use Rattle.builder.specs.Laid.{Laid}
use Rattle.builder.proofs.Joins.{length_front}

-- ---- lists of bytes, joined
all_joined : (h a b g n w t : Bytes) → h ++ (a ++ b) ++ g ++ (n ++ w ++ t) ≡ h ++ (a ++ (b ++ (g ++ (n ++ (w ++ (t ++ []))))))
all_joined h a b g n w t =
    rw (append-nil t)
    (append_assoc (h ++ (a ++ b)) g (n ++ w ++ t) ∙
    (append_assoc h (a ++ b) (g ++ (n ++ w ++ t)) ∙
    ap (λ (l : Bytes). h ++ l) (append_assoc a b (g ++ (n ++ w ++ t)) ∙ ap (λ (l : Bytes). a ++ (b ++ (g ++ l))) (append_assoc n w t))))

module _ (f : Bytes) (dv : Division) (b e : Bytes) (grid : Grid) (n : ℕ) (l : Laid f dv b e grid n) where
  -- ---- the bodies
  abbrev bodies : List Bytes
  bodies = b ∷ e ∷ [] ∷ division_bytes dv ∷ numbers_bytes (transit_in b e grid) ∷ whole n (list_in b e grid) ∷ table_bytes (distance (network_in b e))
      (transit_in b e grid) ∷ []

  empty : closed_body f ≡ []
  empty = none_listed (closed_body f) l.passed.plain

  pub transits_are : transit_in b e grid ≡ transit_of f dv
  unfolding transit_in transit_of network
  transits_are = rw (← l.of_nodes, ← l.of_edges, ← l.made, count_order b n l.count e, l.count)

  built_is : oracle f dv ≡ file oracle_edition bodies
  unfolding oracle network transit_in numbers_bytes
  built_is = rw (← access_body_law b e grid n l.count, empty, ← l.of_nodes, ← l.of_edges, ← l.made, count_order b n l.count e, l.count)

  pub long : network_head ≤ length f
  unfolding entry_at
  long = whole_contents network_edition network_entries f l.passed.contents

  module _ (small : AreBytes f) where
    -- Bodies 1 and 2 stand behind the network's head, and body 3 is empty.
    network_bytes : drop network_head f ≡ b ++ e
    unfolding range concat entry_at
    network_bytes =
        let three : List Bytes = map (body f) (up_to network_entries) in
        let is : f ≡ head_bytes network_edition (map length three) ++ concat three = whole_file f small network_edition network_entries l.passed.contents
        l.passed.bodies
        ∙ file_head network_edition three in
        let behind : drop network_head f ≡ concat three = ap (drop network_head) is
        ∙ drop_at (head_bytes network_edition (map length three)) (concat three) network_head (length_head network_edition (map length three)) in
        behind ∙ rw (empty, append-nil, ← l.of_nodes, ← l.of_edges)

    pub joined : network_head + length b + length e ≡ length f
    joined = omega (arith, long, length-drop network_head f, ap length network_bytes, length-append b e)

    module _ (t a : ℕ) (p : t ≡ length (transit_in b e grid)) (q : a ≡ length (whole n (list_in b e grid))) where
      sizes_are : sizes_in (length b) (length e) t a ≡ map length bodies
      unfolding sizes_in division_bytes bytes16
      sizes_are = rw (length_numbers (transit_in b e grid), length_table (distance (network_in b e)) (transit_in b e grid), p, q)

      pub whole_is : front_bytes f dv (sizes_in (length b) (length e) t a) ++ back_bytes b e grid n ≡ oracle f dv
      unfolding front_bytes back_bytes concat
      whole_is =
          rw (sizes_are, network_bytes)
          (all_joined (head_bytes oracle_edition (map length bodies)) b e (division_bytes dv) (numbers_bytes (transit_in b e grid)) (whole n (list_in b e grid))
          (table_bytes (distance (network_in b e)) (transit_in b e grid)) ∙
          sym (built_is ∙ file_head oracle_edition bodies))

      length_back : length (back_bytes b e grid n) ≡ back_size t a
      unfolding back_bytes
      length_back =
          let ts = transit_in b e grid in
          length-append (numbers_bytes ts ++ whole n (list_in b e grid)) (table_bytes (distance (network_in b e)) ts) ∙
          rw (length-append (numbers_bytes ts) (whole n (list_in b e grid)), length_numbers ts, length_table (distance (network_in b e)) ts, p, q)

      pub size_is : whole_size (length f) t a ≡ length (oracle f dv)
      unfolding whole_size sizes_in
      size_is =
          let s = sizes_in (length b) (length e) t a in
          omega (arith, long, ap length whole_is, length-append (front_bytes f dv s) (back_bytes b e grid n), length_front f dv s long refl, length_back)

      pub size_small : whole_size (length f) t a < 4294967296
      size_small = omega (arith, size_is, (good f dv l.passed).small)

      pub oracle_written : {old new : Bytes} {end : ℕ} → Wrote old 0 (front_bytes f dv (sizes_in (length b) (length e) t a) ++ back_bytes b e grid n)
          end new
          → new ≡ splice 0 (oracle f dv) old
      oracle_written {old} w = w.spliced ∙ ap (λ (bytes : Bytes). splice 0 bytes old) whole_is
