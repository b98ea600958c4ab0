-- The rules that each call checks, in checking order, and the number of the first that is broken. Assumes nothing.
-- A rule is broken or not for any arguments; what stands after a broken rule is not read.
use Rattle.std.specs.Prelude.{ℕ, ◌*◌, Bool, true, false, not, ◌||◌, cond, List, [], ◌∷◌, ◌++◌, length, eqb, ltb, leb}
use Rattle.model.specs.Lists.{equal}
use Rattle.model.specs.Bytes.{Bytes, number_size}
use Rattle.model.specs.Contents.{contents_broken, bodies_broken, node_body, edge_body, closed_body, grid_body, transit_body, access_body, table_body}
use Rattle.model.specs.Contents.{network_edition, network_entries, oracle_edition, oracle_entries}
use Rattle.model.specs.Network.{network, node_count, edge_count, nodes_broken, coordinates_broken, edges_broken, some_edge_broken, numbers_broken}
use Rattle.model.specs.Network.{closed_listed}
use Rattle.model.specs.Grid.{grid_broken, division}
use Rattle.model.specs.Oracle.{oracle, transit_count, grid_body_broken, access_broken, table_broken}
use Rattle.model.specs.Query.{kind_between, way}
use Rattle.model.specs.declared.Division.{Division}
use Rattle.model.specs.declared.Kind.{Kind}
use Rattle.model.specs.declared.Kind.TheVariants.{Far, Local}

pub record Rule : Type 0 where
  pub number : ℕ
  pub broken : Bool

abbrev pub rule : ℕ → Bool → Rule
rule n b = record { number = n; broken = b }

-- The number of the first broken rule, or 0.
unfoldable pub first_broken : List Rule → ℕ
first_broken [] = 0
first_broken (r ∷ rs) = let later = first_broken rs in cond r.broken r.number later

-- ---- rules of a call's arguments

-- Rule 12: "A place number in the call not below N."
unfoldable pub no_such_node : Bytes → ℕ → Bool
no_such_node f u = leb (node_count (node_body f)) u

-- Rule 13: "The far question on a local pair."
unfoldable pub is_local : Kind → Bool
is_local Far = false
is_local Local = true

unfoldable pub local_pair : Bytes → ℕ → ℕ → Bool
local_pair o s t = is_local (kind_between o s t)

-- Rule 14: "Working memory below 8 × N words of 32 bits."
abbrev pub work_words : ℕ → ℕ
work_words n = 8 * n

unfoldable pub words_needed : Bytes → ℕ
words_needed f = work_words (node_count (node_body f))

unfoldable pub work_too_small : Bytes → ℕ → Bool
work_too_small f words = ltb words (words_needed f)

-- Rule 15: "Output shorter than the whole result."
unfoldable pub output_too_small : ℕ → ℕ → Bool
output_too_small size room = ltb room size

-- Rule 16: "An audited oracle that differs in any byte from the one built from its bodies 1 to 4."
unfoldable pub differs_from_built : Bytes → Bool
differs_from_built o = not (equal o (oracle o (division (grid_body o))))

-- ---- rules of files

-- Rules 1 to 7, for a file of this edition and number of entries.
unfoldable pub network_rules : ℕ → ℕ → Bytes → List Rule
network_rules edition entries f =
    rule 1 (contents_broken edition entries f) ∷
    rule 2 (bodies_broken entries f) ∷
    rule 3 (nodes_broken (node_body f)) ∷
    rule 4 (coordinates_broken (node_body f)) ∷
    rule 5 (edges_broken (edge_body f)) ∷
    rule 6 (some_edge_broken (node_count (node_body f)) (edge_body f)) ∷
    rule 7 (numbers_broken (edge_count (edge_body f)) (closed_body f)) ∷ []

-- With 21 "directly after 7, in every call but this converter" (document 02, T-06).
abbrev pub plain_rules : ℕ → ℕ → Bytes → List Rule
plain_rules edition entries f = network_rules edition entries f ++ (rule 21 (closed_listed (closed_body f)) ∷ [])

-- Building's rules before 14.
unfoldable pub accept_rules : Bytes → Division → List Rule
accept_rules f dv = plain_rules network_edition network_entries f ++ (rule 8 (grid_broken dv.g) ∷ [])

-- Rules 1 to 11 and 21, of an oracle.
unfoldable pub shape_rules : Bytes → List Rule
shape_rules o =
    plain_rules oracle_edition oracle_entries o ++
    (rule 8 (grid_body_broken (grid_body o)) ∷
    rule 9 (numbers_broken (node_count (node_body o)) (transit_body o)) ∷
    rule 10 (access_broken (node_count (node_body o)) (transit_count (transit_body o)) (access_body o)) ∷
    rule 11 (table_broken (transit_count (transit_body o)) (table_body o)) ∷ [])

-- "A network is accepted under g when it breaks no rule that building checks before 14", and
-- "an oracle is well-shaped when it breaks no rule checked before 12".
unfoldable pub accepted : Bytes → Division → Bool
accepted f dv = eqb (first_broken (accept_rules f dv)) 0

unfoldable pub well_shaped : Bytes → Bool
well_shaped o = eqb (first_broken (shape_rules o)) 0

-- ---- the rules of each call; `words` and `room` are the lengths of the working words and of the output

unfoldable pub build_rules : Bytes → Division → ℕ → ℕ → List Rule
build_rules f dv words room = accept_rules f dv ++ (rule 14 (work_too_small f words) ∷ rule 15 (output_too_small (length (oracle f dv)) room) ∷ [])

unfoldable pub audit_rules : Bytes → ℕ → List Rule
audit_rules o words = shape_rules o ++ (rule 14 (work_too_small o words) ∷ rule 16 (differs_from_built o) ∷ [])

-- Time checks 1 to 12 and 14, far 1 to 13, and the way 1 to 12, 14 and 15.
unfoldable pub pair_rules : Bytes → ℕ → ℕ → List Rule
pair_rules o s t = shape_rules o ++ (rule 12 (no_such_node o s || no_such_node o t) ∷ [])

unfoldable pub time_rules : Bytes → ℕ → ℕ → ℕ → List Rule
time_rules o s t words = pair_rules o s t ++ (rule 14 (work_too_small o words) ∷ [])

unfoldable pub far_rules : Bytes → ℕ → ℕ → List Rule
far_rules o s t = pair_rules o s t ++ (rule 13 (local_pair o s t) ∷ [])

unfoldable pub way_rules : Bytes → ℕ → ℕ → ℕ → ℕ → List Rule
way_rules o s t words room = time_rules o s t words ++ (rule 15 (output_too_small (number_size * length (way (network o) s t)) room) ∷ [])

unfoldable pub list_rules : Bytes → ℕ → List Rule
list_rules o u = shape_rules o ++ (rule 12 (no_such_node o u) ∷ [])
