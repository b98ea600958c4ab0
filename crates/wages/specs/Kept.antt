-- The nodes of the legs one leg after the other, and what the rules of the legs give when none is broken (with rule 14: `KeptLaws`). Assumes nothing.
use Rattle.std.specs.Prelude.{ℕ, ◌≤◌, ◌<◌, ◌≡◌, refl, Bool, true, false, ◌||◌, List, [], ◌∷◌, ltb}
use Rattle.std.proofs.Common.{arith, sym, ◌∙◌, ltb-false, leb-false}
use Rattle.model.specs.Lists.{any, up_to, concat_map}
use Rattle.model.specs.Bytes.{Bytes}
use Rattle.model.specs.Contents.{node_body}
use Rattle.model.specs.Network.{node_count}
use Rattle.model.specs.Rules.{first_broken, network_rules, shape_rules, well_shaped, no_such_node, words_needed}
use Rattle.theory.specs.Firsts.{counted, split}
use Rattle.theory.specs.Members.{none_any, →up_to, →map}
use Rattle.theory.specs.Passed.{shape_counted, or-false}
use Rattle.checks.specs.RuleLists.{named_rules}
use Rattle.checks.proofs.NameLists.{named_counted}
use Rattle.checks.proofs.RulesKept.{shaped}
use Rattle.wages.specs.Wages.{Leg, max_legs, leg, leg_count, legs, leg_nodes, legs_broken, legs_rules, open_rules}

-- ---- a test of the nodes, leg by leg
abbrev pub some_end : (ℕ → Bool) → Leg → Bool
some_end p l = p l.start || p l.end

pub leg_by_leg : (p : ℕ → Bool) (b : Bytes) → any p (leg_nodes b) ≡ any (some_end p) (legs b)
unfolding leg_nodes any concat_map
leg_by_leg p b = each (legs b)
  where
    both : (a c rest : Bool) → a || (c || rest) ≡ (a || c) || rest
    both true c rest = refl
    both false c rest = refl

    each : (l : List Leg) → any p (concat_map (λ (l : Leg). l.start ∷ l.end ∷ []) l) ≡ any (some_end p) l
    each [] = refl
    each (l ∷ ls) = rw (each ls) (both (p l.start) (p l.end) (any (some_end p) ls))

-- ---- the numbers of the rules
pub legs_counted : (o b : Bytes) → counted (legs_rules o b) ≡ true
unfolding legs_rules named_rules counted shape_rules network_rules
legs_counted o b = refl

pub open_counted : (o b : Bytes) (words : ℕ) → counted (open_rules o b words) ≡ true
unfolding open_rules legs_rules named_rules counted shape_rules network_rules
open_counted o b words = refl

-- ---- what is kept
pub record LegsKept (o b : Bytes) : Type 0 where
  pub shape : well_shaped o ≡ true
  pub start : (i : ℕ) → i < leg_count b → (leg b i).start < node_count (node_body o)
  pub end : (i : ℕ) → i < leg_count b → (leg b i).end < node_count (node_body o)
  pub few : leg_count b ≤ max_legs

pub legs_kept : (o b : Bytes) → first_broken (legs_rules o b) ≡ 0 → LegsKept o b
unfolding legs_rules legs_broken named_rules legs no_such_node
legs_kept o b h =
    let p = split (named_rules o (leg_nodes b)) 17 (legs_broken b) (named_counted o (leg_nodes b)) (omega arith) h in
    let q = split (shape_rules o) 12 (any (no_such_node o) (leg_nodes b)) (shape_counted o) (omega arith) p.0 in
    let ends : (i : ℕ) → i < leg_count b → some_end (no_such_node o) (leg b i) ≡ false = λ i k.
    none_any (some_end (no_such_node o)) (legs b) (sym (leg_by_leg (no_such_node o) b) ∙ q.1) (→map (leg b) (up_to (leg_count b)) (→up_to (leg_count b) i k)) in
    record {
      shape = shaped o q.0;
      start = λ i k. leb-false (node_count (node_body o)) (leg b i).start
          (or-false (no_such_node o (leg b i).start) (no_such_node o (leg b i).end) (ends i k)).0;
      end = λ i k. leb-false (node_count (node_body o)) (leg b i).end
          (or-false (no_such_node o (leg b i).start) (no_such_node o (leg b i).end) (ends i k)).1;
      few = ltb-false max_legs (leg_count b) (or-false (ltb max_legs (leg_count b)) _ p.1).0;
    }

pub record OpenKept (o b : Bytes) (words : ℕ) : Type 0 where
  pub legs : LegsKept o b
  pub enough : words_needed o ≤ words
