-- What a call that refuses nothing knows: each rule that it checked is not broken. Assumes nothing.
use Rattle.std.specs.Prelude.{ℕ, suc, ◌≡◌, refl, Bool, true, false, not, ◌||◌, List, [], ◌∷◌, ◌++◌, length}
use Rattle.std.proofs.Common.{arith, sym, ◌∙◌, ap, true≢false, eqb-true, ne_eqb}
use Rattle.model.specs.Bytes.{Bytes}
use Rattle.model.specs.Contents.{node_body, edge_body, closed_body, network_edition, network_entries, oracle_edition, contents_broken, bodies_broken, grid_body}
use Rattle.model.specs.Contents.{transit_body, access_body, table_body, oracle_entries}
use Rattle.model.specs.Network.{node_count, edge_count, nodes_broken, some_edge_broken, edges_broken, numbers_broken, coordinates_broken, closed_listed}
use Rattle.model.specs.Grid.{grid_broken}
use Rattle.model.specs.Oracle.{grid_body_broken, access_broken, table_broken, transit_count}
use Rattle.model.specs.Rules.{Rule, rule, first_broken, network_rules, plain_rules, accept_rules, accepted, shape_rules, well_shaped}
use Rattle.model.specs.declared.Division.{Division}
use Rattle.theory.specs.Firsts.{passed, counted}

pub or-false : (b c : Bool) → b || c ≡ false → (b ≡ false) × (c ≡ false)
or-false true c h = absurd (true≢false h)
or-false false c h = (refl, h)

pub not-false : {b : Bool} → not b ≡ false → b ≡ true
not-false {b = true} h = refl
not-false {b = false} h = absurd (true≢false h)

-- ---- the rules of files all have numbers above 0
pub network_counted : (edition entries : ℕ) (f : Bytes) → counted (network_rules edition entries f) ≡ true
unfolding counted network_rules
network_counted edition entries f = refl

pub plain_counted : (edition entries : ℕ) (f : Bytes) → counted (plain_rules edition entries f) ≡ true
unfolding counted network_rules
plain_counted edition entries f = refl

pub shape_counted : (o : Bytes) → counted (shape_rules o) ≡ true
unfolding counted shape_rules network_rules
shape_counted o = refl

-- ---- rules 3 to 7, which a network and an oracle keep alike
pub record Sound (f : Bytes) : Type 0 where
  pub nodes_rule : nodes_broken (node_body f) ≡ false
  pub coordinates : coordinates_broken (node_body f) ≡ false
  pub edges_rule : edges_broken (edge_body f) ≡ false
  pub some_edge : some_edge_broken (node_count (node_body f)) (edge_body f) ≡ false
  pub closed : numbers_broken (edge_count (edge_body f)) (closed_body f) ≡ false

-- Rules 1 to 7, and what is left of a longer list of rules.
pub record Rest (edition entries : ℕ) (f : Bytes) (rs : List Rule) : Type 0 where
  pub contents : contents_broken edition entries f ≡ false
  pub bodies : bodies_broken entries f ≡ false
  pub sound : Sound f
  pub rest : first_broken rs ≡ 0

pub network_passed : (edition entries : ℕ) (f : Bytes) (rs : List Rule) → first_broken (network_rules edition entries f ++ rs) ≡ 0 → Rest edition entries f rs
unfolding network_rules
network_passed edition entries f rs e0 =
    let p1 = passed 1 (contents_broken edition entries f) _ (omega arith) e0 in
    let p2 = passed 2 (bodies_broken entries f) _ (omega arith) p1.1 in
    let p3 = passed 3 (nodes_broken (node_body f)) _ (omega arith) p2.1 in
    let p4 = passed 4 (coordinates_broken (node_body f)) _ (omega arith) p3.1 in
    let p5 = passed 5 (edges_broken (edge_body f)) _ (omega arith) p4.1 in
    let p6 = passed 6 (some_edge_broken (node_count (node_body f)) (edge_body f)) _ (omega arith) p5.1 in
    let p7 = passed 7 (numbers_broken (edge_count (edge_body f)) (closed_body f)) _ (omega arith) p6.1 in
    record {
      contents = p1.0;
      bodies = p2.0;
      sound = record { nodes_rule = p3.0; coordinates = p4.0; edges_rule = p5.0; some_edge = p6.0; closed = p7.0 };
      rest = p7.1;
    }

-- The same with 21.
abbrev pub PlainRest : ℕ → ℕ → Bytes → List Rule → Type 0
PlainRest edition entries f rs = Rest edition entries f rs × (closed_listed (closed_body f) ≡ false)

pub plain_passed : (edition entries : ℕ) (f : Bytes) (rs : List Rule) → first_broken (plain_rules edition entries f ++ rs) ≡ 0 → PlainRest edition entries f rs
unfolding network_rules
plain_passed edition entries f rs e =
    let r = network_passed edition entries f (rule 21 (closed_listed (closed_body f)) ∷ rs) e in
    let p = passed 21 (closed_listed (closed_body f)) rs (omega arith) r.rest in
    (record { contents = r.contents; bodies = r.bodies; sound = r.sound; rest = p.1 }, p.0)

-- The body is empty then.
pub none_listed : (b : Bytes) → closed_listed b ≡ false → b ≡ []
unfolding closed_listed
none_listed [] h = refl
none_listed (x ∷ b) h = absurd (true≢false (sym (ap not (ne_eqb (suc (length b)) 0 (λ e. omega arith))) ∙ h))

-- ---- an accepted network: the rules that building checks before 14
pub record Passed (f : Bytes) (dv : Division) : Type 0 where
  pub contents : contents_broken network_edition network_entries f ≡ false
  pub bodies : bodies_broken network_entries f ≡ false
  pub sound : Sound f
  pub plain : closed_listed (closed_body f) ≡ false
  pub grid : grid_broken dv.g ≡ false

pub all_passed : (f : Bytes) (dv : Division) → accepted f dv ≡ true → Passed f dv
unfolding accepted accept_rules
all_passed f dv h =
    let (r, plain) = plain_passed network_edition network_entries f (rule 8 (grid_broken dv.g) ∷ []) (eqb-true _ _ h) in
    record { contents = r.contents; bodies = r.bodies; sound = r.sound; plain = plain; grid = (passed 8 (grid_broken dv.g) [] (omega arith) r.rest).0 }

pub passed_all : (f : Bytes) (dv : Division) → Passed f dv → accepted f dv ≡ true
unfolding accepted accept_rules network_rules first_broken
passed_all f dv p =
    let s = p.sound in
    rw (p.contents, p.bodies, s.nodes_rule, s.coordinates, s.edges_rule, s.some_edge, s.closed, p.plain, p.grid)

-- ---- a well-shaped oracle: rules 1 to 11 and 21
pub record Shaped (o : Bytes) : Type 0 where
  pub contents : contents_broken oracle_edition oracle_entries o ≡ false
  pub bodies : bodies_broken oracle_entries o ≡ false
  pub sound : Sound o
  pub plain : closed_listed (closed_body o) ≡ false
  pub grid : grid_body_broken (grid_body o) ≡ false
  pub transit : numbers_broken (node_count (node_body o)) (transit_body o) ≡ false
  pub access : access_broken (node_count (node_body o)) (transit_count (transit_body o)) (access_body o) ≡ false
  pub table : table_broken (transit_count (transit_body o)) (table_body o) ≡ false

pub all_shaped : (o : Bytes) → well_shaped o ≡ true → Shaped o
unfolding well_shaped shape_rules
all_shaped o h =
    let (r, plain) = plain_passed oracle_edition oracle_entries o _ (eqb-true _ _ h) in
    let p8 = passed 8 (grid_body_broken (grid_body o)) _ (omega arith) r.rest in
    let p9 = passed 9 (numbers_broken (node_count (node_body o)) (transit_body o)) _ (omega arith) p8.1 in
    let p10 = passed 10 (access_broken (node_count (node_body o)) (transit_count (transit_body o)) (access_body o)) _ (omega arith) p9.1 in
    let p11 = passed 11 (table_broken (transit_count (transit_body o)) (table_body o)) _ (omega arith) p10.1 in
    record { contents = r.contents; bodies = r.bodies; sound = r.sound; plain = plain; grid = p8.0; transit = p9.0; access = p10.0; table = p11.0 }

pub shaped_all : (o : Bytes) → Shaped o → first_broken (shape_rules o) ≡ 0
unfolding shape_rules network_rules first_broken
shaped_all o p =
    let s = p.sound in
    rw (p.contents, p.bodies, s.nodes_rule, s.coordinates, s.edges_rule, s.some_edge, s.closed, p.plain, p.grid, p.transit, p.access, p.table)
