-- The rules of a file's bodies, in checking order. Assumes nothing.
use Rattle.std.specs.Prelude.{ℕ, ◌≡◌, refl, List, [], ◌∷◌, ◌++◌}
use Rattle.model.specs.Bytes.{Bytes}
use Rattle.model.specs.Contents.{contents_broken, bodies_broken, node_body, edge_body, closed_body, grid_body, transit_body, access_body, table_body}
use Rattle.model.specs.Network.{node_count, edge_count, nodes_broken, coordinates_broken, edges_broken, some_edge_broken, numbers_broken}
use Rattle.model.specs.Oracle.{transit_count, grid_body_broken, access_broken, table_broken}
use Rattle.model.specs.Rules.{Rule, rule, network_rules, plain_rules, shape_rules}
use Rattle.model.specs.Contents.{oracle_edition, oracle_entries}

-- Rules 3 to 7, over bodies 1 to 3.
abbrev pub network_body_rules : Bytes → Bytes → Bytes → List Rule
network_body_rules nodes edges closed =
    rule 3 (nodes_broken nodes) ∷
    rule 4 (coordinates_broken nodes) ∷
    rule 5 (edges_broken edges) ∷
    rule 6 (some_edge_broken (node_count nodes) edges) ∷
    rule 7 (numbers_broken (edge_count edges) closed) ∷ []

-- Rules 8 to 11, over bodies 4 to 7 of an oracle with n nodes.
abbrev pub oracle_body_rules : ℕ → Bytes → Bytes → Bytes → Bytes → List Rule
oracle_body_rules n grid transit access table =
    rule 8 (grid_body_broken grid) ∷
    rule 9 (numbers_broken n transit) ∷
    rule 10 (access_broken n (transit_count transit) access) ∷
    rule 11 (table_broken (transit_count transit) table) ∷ []

-- These are the rules of a file past 1 and 2, and of an oracle past 21.
pub network_rules_law : (edition entries : ℕ) (f : Bytes)
    → network_rules edition entries f ≡ rule 1 (contents_broken edition entries f) ∷
    (rule 2 (bodies_broken entries f) ∷ network_body_rules (node_body f) (edge_body f) (closed_body f))
unfolding network_rules
network_rules_law edition entries f = refl

pub shape_rules_law : (o : Bytes) → shape_rules o ≡ plain_rules oracle_edition oracle_entries o ++ oracle_body_rules (node_count (node_body o)) (grid_body o)
    (transit_body o) (access_body o) (table_body o)
unfolding shape_rules
shape_rules_law o = refl
