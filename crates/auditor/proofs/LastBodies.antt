-- Bodies 5 to 7 from the words and the sets in the regions. Assumes nothing.
use Prim.Native.Nat.{ℕ, ◌*◌, ◌/◌, ◌≤◌}
use native.Mathlib.Omega.{arith}
use mathlib.Core.Path.{◌≡◌, sym, ◌∙◌, ap}
use mathlib.Core.Bool.{Bool, true, false}
use mathlib.Core.List.{List}
use lib.ListN.{length}
use Rattle.model.specs.Lists.{equal, concat_map}
use Rattle.model.specs.Bytes.{Bytes, bytes16, number_size}
use Rattle.model.specs.Network.{node_count}
use Rattle.model.specs.Oracle.{value_size}
use Rattle.theory.specs.Audits.{equal→}
use Rattle.algorithms.specs.Rounds.{distance_words}
use Rattle.arcs.specs.Arcs.{arcs_in}
use Rattle.bitset.specs.Members.{members_of}
use Rattle.bitset.proofs.Ranks.{members_most}
use Rattle.grid.specs.declared.Grid.{Grid}
use Rattle.emit.specs.Parts.{numbers_bytes, row_bytes}
use Rattle.emit.specs.PartLaws.{length_numbers}
use Rattle.words.specs.Regions.{transit}
use Rattle.passes.specs.Building.{transit_in, members_in}
use Rattle.passes.specs.BuildingLaws.{table_words}
use Rattle.auditor.specs.Same.{same_lists, same_bodies}

-- T, where the transit body is the members of a set.
module _ (n : ℕ) (s b : List ℕ) (e : equal b (numbers_bytes (members_of n s)) ≡ true) where
  count_body : length b ≡ number_size * length (members_of n s)
  count_body = ap length (equal→ b (numbers_bytes (members_of n s)) e) ∙ length_numbers (members_of n s)

  pub few_body : length b ≤ number_size * n
  few_body = omega (arith, count_body, members_most s n)

  -- The size of a row, where the set has come to be s' with the same members.
  pub row_size : (s' : List ℕ) → members_of n s' ≡ members_of n s → value_size * (length b / number_size) ≡ value_size * length (members_of n s')
  row_size s' q = omega (arith, count_body, ap length q)

module _ (nodes edges : Bytes) (grid : Grid) (n : ℕ) (size : n ≡ node_count nodes) (b access table : Bytes) (w : List ℕ)
    (ts : members_in n transit w ≡ transit_in nodes edges grid) where
  numbers_are : equal b (numbers_bytes (members_in n transit w)) ≡ equal b (concat_map bytes16 (transit_in nodes edges grid))
  unfolding numbers_bytes
  numbers_are = rw ts

  pub first_differs : equal b (numbers_bytes (members_in n transit w)) ≡ false → false ≡ same_bodies nodes edges grid b access table
  unfolding same_bodies
  first_differs e = rw (sym numbers_are ∙ e)

  pub first_same : equal b (numbers_bytes (members_in n transit w)) ≡ true → equal b (concat_map bytes16 (transit_in nodes edges grid)) ≡ true
  first_same e = sym numbers_are ∙ e

  module _ (e : equal b (concat_map bytes16 (transit_in nodes edges grid)) ≡ true) where
    pub second_differs : same_lists nodes edges grid access ≡ false → false ≡ same_bodies nodes edges grid b access table
    unfolding same_bodies
    second_differs f = rw (e, f)

    pub third_tells : same_lists nodes edges grid access ≡ true → (r : Bool)
        → r ≡ equal table (concat_map (λ v. row_bytes (distance_words (arcs_in edges) n v) (members_in n transit w)) (members_in n transit w))
        → r ≡ same_bodies nodes edges grid b access table
    unfolding same_bodies
    third_tells f r q = rw (e, f) (q ∙ ap (equal table) (table_words nodes edges grid n size (members_in n transit w) ts))
