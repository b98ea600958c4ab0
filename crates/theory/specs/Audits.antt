-- The audit accepts a well-shaped oracle just when it is the one that building gives. Assumes nothing.
use Rattle.std.specs.Prelude.{ℕ, ◌+◌, ◌≤◌, ◌≡◌, refl, ◌↔◌, true, not, cond, Bool, false, List, [], ◌∷◌, length, eqb}
use Rattle.std.proofs.Common.{arith, sym, ◌∙◌, ap, true≢false, le-ltb, eq-eqb, eqb-true}
use Rattle.model.specs.Lists.{equal}
use Rattle.model.specs.Bytes.{Bytes}
use Rattle.model.specs.Contents.{node_body, edge_body, closed_body, grid_body}
use Rattle.model.specs.Network.{network}
use Rattle.model.specs.Grid.{grid_broken, division, division_size}
use Rattle.model.specs.Oracle.{oracle_over, oracle, grid_body_broken}
use Rattle.model.specs.Rules.{first_broken, shape_rules, audit_rules, work_too_small, words_needed, differs_from_built, accepted, well_shaped}
use Rattle.model.specs.Calls.{audit_refusal}
use Rattle.model.specs.declared.Division.{Division}
use Rattle.theory.specs.Tests.{and, both}
use Rattle.theory.specs.Built.{Good, bodies_of, same_division, same_network}
use Rattle.theory.specs.Passed.{all_passed, shape_counted, or-false, not-false, Shaped, all_shaped, passed_all}
use Rattle.theory.specs.Firsts.{first_append}
use Rattle.theory.specs.Accepted.{good}
use Rattle.theory.specs.WellShaped.{built_well_shaped}
use Rattle.theory.specs.Sound.{node_bytes, edge_bytes, closed_bytes}
use Rattle.theory.specs.NetworkFile.{network_of, its_nodes, its_edges, its_closed, its_contents, its_bodies}

pub equal_self : (l : List ℕ) → equal l l ≡ true
unfolding equal
equal_self [] = refl
equal_self (x ∷ l) = and (eq-eqb x x refl) (equal_self l)

pub equal→ : (l m : List ℕ) → equal l m ≡ true → l ≡ m
unfolding equal
equal→ [] [] h = refl
equal→ [] (y ∷ m) h = absurd (true≢false (sym h))
equal→ (x ∷ l) [] h = absurd (true≢false (sym h))
equal→ (x ∷ l) (y ∷ m) h =
    let b = both {b = eqb x y} h in
    let head : x ≡ y = eqb-true x y b.0 in
    let tail : l ≡ m = equal→ l m b.1 in
    λ i. head i ∷ tail i

-- Rule 16 is kept just when the oracle is the one built from its own bodies 1 to 4.
pub rule16 : (o : Bytes) → (differs_from_built o ≡ false) ↔ (o ≡ oracle o (division (grid_body o)))
unfolding differs_from_built
rule16 o = (λ h. equal→ o (oracle o (division (grid_body o))) (not-false h), λ e. ap (λ (m : Bytes). not (equal o m)) (sym e) ∙ ap not (equal_self o))

oracle_from : (f : Bytes) (dv : Division) → oracle f dv ≡ oracle_over (network f) (node_body f) (edge_body f) (closed_body f) dv
unfolding oracle
oracle_from f dv = refl

module _ (f : Bytes) (dv : Division) (ok : accepted f dv ≡ true) where
  fine : Good f dv
  fine = good f dv (all_passed f dv ok)

  pub built_again : oracle (oracle f dv) (division (grid_body (oracle f dv))) ≡ oracle f dv
  built_again =
      let same = bodies_of f dv fine in
      oracle_from (oracle f dv) _ ∙
      (rw (same_network f dv fine, same 0 (omega arith), same 1 (omega arith), same 2 (omega arith), same_division f dv fine) (sym (oracle_from f dv)))

-- ---- the network in an oracle
-- Bodies 1 to 3, as a file.
unfoldable pub network_in : Bytes → Bytes
network_in o = network_of (node_body o) (edge_body o) (closed_body o)

module _ (o : Bytes) (shaped : well_shaped o ≡ true) where
  abbrev dv : Division
  dv = division (grid_body o)

  p : Shaped o
  p = all_shaped o shaped

  few_bytes : length (node_body o) + length (edge_body o) + length (closed_body o) ≤ 1_000_000
  few_bytes = omega (arith, node_bytes o p.sound, edge_bytes o p.sound, closed_bytes o p.sound)

  nodes_in : node_body (network_in o) ≡ node_body o
  unfolding network_in
  nodes_in = its_nodes (node_body o) (edge_body o) (closed_body o) few_bytes

  edges_in : edge_body (network_in o) ≡ edge_body o
  unfolding network_in
  edges_in = its_edges (node_body o) (edge_body o) (closed_body o) few_bytes

  closed_in : closed_body (network_in o) ≡ closed_body o
  unfolding network_in
  closed_in = its_closed (node_body o) (edge_body o) (closed_body o) few_bytes

  network_in_law : network (network_in o) ≡ network o
  unfolding network
  network_in_law = rw (nodes_in, edges_in)

  pub accepted_in : accepted (network_in o) dv ≡ true
  accepted_in = passed_all (network_in o) dv (record {
    contents = unfold network_in in its_contents (node_body o) (edge_body o) (closed_body o) few_bytes;
    bodies = unfold network_in in its_bodies (node_body o) (edge_body o) (closed_body o) few_bytes;
    sound = record {
      nodes_rule = rw nodes_in p.sound.nodes_rule;
      coordinates = rw nodes_in p.sound.coordinates;
      edges_rule = rw edges_in p.sound.edges_rule;
      some_edge = rw (nodes_in, edges_in) p.sound.some_edge;
      closed = rw (edges_in, closed_in) p.sound.closed;
    };
    plain = rw closed_in p.plain;
    grid = unfold grid_body_broken in (or-false (not (eqb (length (grid_body o)) division_size)) (grid_broken dv.g) p.grid).1;
  })

  pub oracle_in : oracle (network_in o) dv ≡ oracle o dv
  oracle_in =
      oracle_from (network_in o) dv ∙ (rw (network_in_law, nodes_in, edges_in, closed_in) (sym (oracle_from o dv)))

  -- ---- the audit, both ways
  module _ (work : List ℕ) (enough : words_needed o ≤ length work) where
    refusal : audit_refusal o work ≡ cond (differs_from_built o) 16 0
    unfolding audit_refusal audit_rules well_shaped
    refusal =
        first_append (shape_rules o) _ (shape_counted o) (eqb-true _ _ shaped) ∙
        (unfold first_broken work_too_small in rw (le-ltb (length work) (words_needed o) enough))

    pub audit_own : (audit_refusal o work ≡ 0) ↔ (o ≡ oracle o dv)
    audit_own = (λ h. (rule16 o).0 (kept (differs_from_built o) (sym refusal ∙ h)), λ e. refusal ∙ rw ((rule16 o).1 e))
      where
        kept : (b : Bool) → ◌≡◌ {A = ℕ} (cond b 16 0) 0 → b ≡ false
        kept true h = absurd (omega arith)
        kept false h = refl

-- A built oracle passes the audit, and an oracle that passes was built.
pub audit_built : (o : Bytes) → well_shaped o ≡ true → (work : List ℕ) → words_needed o ≤ length work
    → (audit_refusal o work ≡ 0) ↔ ((f : Bytes) × (dv : Division) × (accepted f dv ≡ true) × (o ≡ oracle f dv))
audit_built o shaped work enough = (
  λ h. (network_in o, division (grid_body o), accepted_in o shaped, (audit_own o shaped work enough).0 h ∙ sym (oracle_in o shaped)),
  λ (f, dv, ok, e). (audit_own o shaped work enough).1 (again f dv ok e),
)
  where
    again : (f : Bytes) (dv : Division) → accepted f dv ≡ true → o ≡ oracle f dv → o ≡ oracle o (division (grid_body o))
    again f dv ok e = e ∙ (sym (built_again f dv ok) ∙ ap (λ (x : Bytes). oracle x (division (grid_body x))) (sym e))

pub audit_passes : (f : Bytes) (dv : Division) → accepted f dv ≡ true → (work : List ℕ) → words_needed (oracle f dv) ≤ length work
    → audit_refusal (oracle f dv) work ≡ 0
audit_passes f dv ok work enough = (audit_built (oracle f dv) (built_well_shaped f dv ok) work enough).1 (f, dv, ok, refl)
