-- A well-shaped oracle is the built one just when its last three bodies are: what the audit has to compare. Assumes nothing.
use Rattle.std.specs.Prelude.{ℕ, ◌+◌, ◌*◌, ◌/◌, ◌%◌, ◌<◌, ◌≡◌, ◌↔◌, true, false, not, List, [], ◌∷◌, map, length, take, drop, eqb}
use Rattle.std.proofs.Common.{arith, ◌∙◌, ap, length-take, get_or-take, get_or-drop, eqb-true}
use Rattle.std.proofs.Math.Decide.{dec_lt}
use Rattle.std.proofs.Math.ListN.{get_or-eq_default}
use Rattle.model.specs.Lists.{range, concat_map, up_to}
use Rattle.model.specs.Bytes.{Bytes, byte, word16, bytes16, cut}
use Rattle.model.specs.Contents.{oracle_edition, oracle_entries, body, body_part, grid_body, transit_body, access_body, table_body, file, node_body, edge_body}
use Rattle.model.specs.Contents.{closed_body}
use Rattle.model.specs.Network.{network, order, distance}
use Rattle.model.specs.Grid.{grid_over, grid_broken, division, division_size, division_bytes}
use Rattle.model.specs.Access.{access_lists, transit_nodes}
use Rattle.model.specs.Oracle.{oracle, access_bytes, table_bytes, grid_body_broken}
use Rattle.model.specs.Rules.{well_shaped}
use Rattle.model.specs.declared.Division.{Division}
use Rattle.theory.specs.Passed.{or-false, not-false, Shaped, all_shaped}
use Rattle.theory.specs.Built.{bodies_of}
use Rattle.theory.specs.Accepted.{good_of}
use Rattle.theory.specs.Whole.{AreBytes, whole_file}

-- The bytes of a body are bytes.
pub part_bytes : (f : Bytes) → AreBytes f → (k : ℕ) → AreBytes (body f k)
unfolding body cut
part_bytes f small k i = pick (dec_lt i (body_part f k).size)
  where
    pick : Dec (i < (body_part f k).size) → byte (take (body_part f k).size (drop (body_part f k).start f)) i < 256
    pick (yes h) = rw (get_or-take (body_part f k).size (drop (body_part f k).start f) i 0 h, get_or-drop (body_part f k).start f i 0)
        (small ((body_part f k).start + i))
    pick (no h) = rw (get_or-eq_default (take (body_part f k).size (drop (body_part f k).start f)) 0 {n = i}
        (omega (arith, length-take (body_part f k).size (drop (body_part f k).start f)))) (omega arith)

-- Two bytes are those of the number that they are.
two : (b : Bytes) → length b ≡ division_size → AreBytes b → b ≡ division_bytes (division b)
unfolding division division_bytes word16 bytes16
two [] e s = absurd (omega arith)
two (x ∷ []) e s = absurd (omega arith)
two (x ∷ (y ∷ [])) e s =
    let p : x ≡ (x + 256 * y) % 256 = omega (arith, s 0) in
    let h : (x + 256 * y) / 256 ≡ y = omega (arith, s 0) in
    let q : y ≡ (x + 256 * y) / 256 % 256 = rw h (omega (arith, s 1)) in
    λ i. p i ∷ q i ∷ []
two (x ∷ (y ∷ (z ∷ b))) e s = absurd (omega arith)

module _ (o : Bytes) (shaped : well_shaped o ≡ true) where
  abbrev dv : Division
  dv = division (grid_body o)

  abbrev lists : List (List ℕ)
  lists = access_lists (network o) (grid_over dv (network o).nodes)

  abbrev transit : List ℕ
  transit = transit_nodes (order (network o)) lists

  -- The last three bodies that building writes.
  abbrev pub built_transit : Bytes
  built_transit = concat_map bytes16 transit

  abbrev pub built_access : Bytes
  built_access = access_bytes (distance (network o)) transit lists

  abbrev pub built_table : Bytes
  built_table = table_bytes (distance (network o)) transit

  abbrev pub AsBuilt : Type 0
  AsBuilt = (transit_body o ≡ built_transit) × (access_body o ≡ built_access) × (table_body o ≡ built_table)

  p : Shaped o
  p = all_shaped o shaped

  keeps : grid_broken dv.g ≡ false
  unfolding grid_body_broken
  keeps = (or-false (not (eqb (length (grid_body o)) division_size)) (grid_broken dv.g) p.grid).1

  -- A built oracle has them.
  pub is_built : o ≡ oracle o dv → AsBuilt
  is_built e =
      let fine = good_of o dv p.sound keeps in (
        ap (λ (x : Bytes). body x 4) e ∙ bodies_of o dv fine 4 (omega arith),
        ap (λ (x : Bytes). body x 5) e ∙ bodies_of o dv fine 5 (omega arith),
        ap (λ (x : Bytes). body x 6) e ∙ bodies_of o dv fine 6 (omega arith),
      )

  -- And with them it is built: nothing else stands in the file.
  module _ (small : AreBytes o) where
    grid_bytes : grid_body o ≡ division_bytes dv
    unfolding grid_body_broken
    grid_bytes = two (grid_body o) (eqb-true (length (grid_body o)) division_size
        (not-false (or-false (not (eqb (length (grid_body o)) division_size)) (grid_broken dv.g) p.grid).0)) (part_bytes o small 3)

    parts : transit_body o ≡ built_transit → access_body o ≡ built_access → table_body o ≡ built_table
        → file oracle_edition (map (body o) (up_to oracle_entries)) ≡ oracle o dv
    unfolding oracle range
    parts t a x = λ i. file oracle_edition (node_body o ∷ edge_body o ∷ closed_body o ∷ grid_bytes i ∷ t i ∷ a i ∷ x i ∷ [])

    pub built_is : AsBuilt → o ≡ oracle o dv
    built_is (t, a, x) = whole_file o small oracle_edition oracle_entries p.contents p.bodies ∙ parts t a x

    pub audit_bodies : (o ≡ oracle o dv) ↔ AsBuilt
    audit_bodies = (is_built, built_is)
