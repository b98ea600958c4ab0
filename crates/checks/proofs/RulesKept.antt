-- What the rules of a call give when none is broken. Assumes nothing.
use Prim.Native.Nat.{ℕ, ◌≤◌, ◌<◌}
use native.Mathlib.Omega.{arith}
use mathlib.Core.Path.{◌≡◌}
use mathlib.Core.Bool.{true, ◌||◌}
use lib.Dec.{ltb}
use borrow.Author.Tests.{eq-eqb, le-ltb, leb-false, ltb-false}
use Rattle.model.specs.Bytes.{Bytes}
use Rattle.model.specs.Contents.{node_body}
use Rattle.model.specs.Network.{node_count}
use Rattle.model.specs.Rules.{first_broken, shape_rules, pair_rules, time_rules, far_rules, list_rules, well_shaped, no_such_node, work_too_small, words_needed}
use Rattle.model.specs.Rules.{local_pair, work_words}
use Rattle.theory.specs.BuiltCalls.{pair_counted}
use Rattle.theory.specs.Firsts.{split}
use Rattle.theory.specs.Passed.{shape_counted, or-false, all_shaped}
use Rattle.theory.specs.Sound.{node_bytes}
use Rattle.checks.specs.RuleLists.{room_rules}
use Rattle.checks.proofs.CheckOrder.{last_kept, no_rule}
use Rattle.reader.proofs.Order.{in_order}

pub shaped : (o : Bytes) → first_broken (shape_rules o) ≡ 0 → well_shaped o ≡ true
unfolding well_shaped
shaped o e = eq-eqb (first_broken (shape_rules o)) 0 e

-- What the checks of an oracle need, one after the other.
pub ruleset checked = (in_order, shape_counted, pair_counted, no_rule, shaped)

pub some_node : (o : Bytes) → well_shaped o ≡ true → 0 < node_count (node_body o)
some_node o h = (node_bytes o (all_shaped o h).sound).1

-- ---- rule 14, of n nodes, as the code tests it
pub too_few : (f : Bytes) (n : ℕ) → n ≡ node_count (node_body f) → (words : ℕ) → ltb words (work_words n) ≡ work_too_small f words
unfolding work_too_small words_needed
too_few f n e words = rw e

-- ---- rules 1 to 11, and 14
pub room_kept : (o : Bytes) (words : ℕ) → first_broken (room_rules o words) ≡ 0 → (well_shaped o ≡ true) × (words_needed o ≤ words)
unfolding room_rules work_too_small
room_kept o words h =
    let p = split (shape_rules o) 14 (work_too_small o words) (shape_counted o) (omega arith) h in
    (shaped o p.0, ltb-false words (words_needed o) p.1)

-- ---- one node, and two
pub record ListKept (o : Bytes) (u : ℕ) : Type 0 where
  pub shape : well_shaped o ≡ true
  pub node : u < node_count (node_body o)

pub list_kept : (o : Bytes) (u : ℕ) → first_broken (list_rules o u) ≡ 0 → ListKept o u
unfolding list_rules no_such_node
list_kept o u h =
    let p = split (shape_rules o) 12 (no_such_node o u) (shape_counted o) (omega arith) h in
    record { shape = shaped o p.0; node = leb-false (node_count (node_body o)) u p.1 }

pub record PairKept (o : Bytes) (s t : ℕ) : Type 0 where
  pub shape : well_shaped o ≡ true
  pub first : s < node_count (node_body o)
  pub second : t < node_count (node_body o)

pub pair_kept : (o : Bytes) (s t : ℕ) → first_broken (pair_rules o s t) ≡ 0 → PairKept o s t
unfolding pair_rules no_such_node
pair_kept o s t h =
    let p = split (shape_rules o) 12 (no_such_node o s || no_such_node o t) (shape_counted o) (omega arith) h in
    let q = or-false (no_such_node o s) (no_such_node o t) p.1 in
    record { shape = shaped o p.0; first = leb-false (node_count (node_body o)) s q.0; second = leb-false (node_count (node_body o)) t q.1 }

pub record TimeKept (o : Bytes) (s t words : ℕ) : Type 0 where
  pub pair : PairKept o s t
  pub enough : words_needed o ≤ words

pub time_kept : (o : Bytes) (s t words : ℕ) → first_broken (time_rules o s t words) ≡ 0 → TimeKept o s t words
unfolding time_rules work_too_small
time_kept o s t words h =
    let p = split (pair_rules o s t) 14 (work_too_small o words) (pair_counted o s t) (omega arith) h in
    record { pair = pair_kept o s t p.0; enough = ltb-false words (words_needed o) p.1 }

pub far_kept : (o : Bytes) (s t : ℕ) → first_broken (far_rules o s t) ≡ 0 → PairKept o s t
unfolding far_rules
far_kept o s t h = pair_kept o s t (split (pair_rules o s t) 13 (local_pair o s t) (pair_counted o s t) (omega arith) h).0

-- With words enough the rules of a time are those of the pair.
pub time_roomy : (o : Bytes) (s t words : ℕ) → words_needed o ≤ words → first_broken (time_rules o s t words) ≡ first_broken (pair_rules o s t)
unfolding time_rules work_too_small
time_roomy o s t words h = last_kept (pair_rules o s t) 14 (le-ltb words (words_needed o) h)
