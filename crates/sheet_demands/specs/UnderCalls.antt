-- The rules of the calls under a sheet: when none is broken, and that a sheet without lines breaks none more. Assumes nothing.
use Rattle.std.specs.Prelude.{ℕ, ◌*◌, ◌≤◌, ◌<◌, ◌≡◌, refl, true, false}
use Rattle.std.proofs.Math.Decide.{ℕ_discrete}
use Rattle.std.proofs.Math.Path.{sym}
use Rattle.std.proofs.Common.{◌∙◌, arith}
use mathlib.Core.List.{List, [], ◌∷◌, ◌++◌}
use Rattle.std.proofs.Math.ListN.{length}
use borrow.Author.Tests.{eq-eqb, leb-false, le-ltb}
use Rattle.model.specs.Bytes.{Bytes, number_size}
use Rattle.model.specs.Contents.{node_body, edge_body}
use Rattle.model.specs.Network.{network, node_count, edge_count}
use Rattle.model.specs.Query.{way}
use Rattle.model.specs.Rules.{Rule, rule, first_broken, network_rules, shape_rules, pair_rules, time_rules, way_rules, well_shaped, no_such_node}
use Rattle.model.specs.Rules.{words_needed, work_too_small, output_too_small}
use Rattle.theory.specs.Firsts.{counted, first_append, first_stays, goes, none, one_kept, split}
use Rattle.theory.specs.Passed.{or-false, all_shaped, shape_counted}
use Rattle.theory.specs.BuiltCalls as calls
use Rattle.sheet.specs.Sheet.{effects, line_count, line_body, sheet_broken}
use Rattle.sheet.specs.Under.{way_under}
use Rattle.sheet.specs.SheetCalls.{sheet_rules, pair_under_rules, time_under_rules, way_under_rules, time_under_refusal, way_under_refusal}
use Rattle.sheet_demands.specs.LineLaws.{empty_network, empty_names, empty_slow}

pair_counted : (o sheet : Bytes) (s t : ℕ) → counted (pair_under_rules o sheet s t) ≡ true
unfolding pair_under_rules sheet_rules pair_rules shape_rules network_rules counted
pair_counted o sheet s t = refl

time_counted : (o sheet : Bytes) (s t words : ℕ) → counted (time_under_rules o sheet s t words) ≡ true
unfolding time_under_rules pair_under_rules sheet_rules pair_rules shape_rules network_rules counted
time_counted o sheet s t words = refl

-- ---- where the oracle and the sheet keep their rules, and memory and output suffice
module _ (o : Bytes) (shaped : well_shaped o ≡ true) (sheet : Bytes) (kept : first_broken (sheet_rules o sheet) ≡ 0)
    (s t : ℕ) (hs : s < node_count (node_body o)) (ht : t < node_count (node_body o)) where
  pair_kept : first_broken (pair_under_rules o sheet s t) ≡ 0
  unfolding pair_under_rules
  pair_kept = first_append (pair_rules o s t) (sheet_rules o sheet) (calls.pair_counted o s t) (calls.pair_kept o shaped s t hs ht) ∙ kept

  pub time_kept : (work : List ℕ) → words_needed o ≤ length work → time_under_refusal o sheet s t work ≡ 0
  unfolding time_under_refusal time_under_rules work_too_small
  time_kept work h = sym (one_kept (pair_under_rules o sheet s t) 14 (pair_counted o sheet s t) pair_kept (le-ltb (length work) (words_needed o) h))

  pub way_kept : (work : List ℕ) (out : Bytes) → words_needed o ≤ length work → 2 * length (way_under (effects sheet) o s t) ≤ length out
      → way_under_refusal o sheet s t work out ≡ 0
  unfolding way_under_refusal way_under_rules output_too_small
  way_kept work out h k =
      sym (one_kept (time_under_rules o sheet s t (length work)) 15 (time_counted o sheet s t (length work)) (unfold time_under_refusal in time_kept work h)
      (le-ltb (length out) (2 * length (way_under (effects sheet) o s t)) k))

-- ---- what a time call that is not refused was asked
pub record Asked (o : Bytes) (s t : ℕ) : Type 0 where
  pub shaped : well_shaped o ≡ true
  pub hs : s < node_count (node_body o)
  pub ht : t < node_count (node_body o)

pair_asked : (o : Bytes) (s t : ℕ) → first_broken (pair_rules o s t) ≡ 0 → Asked o s t
unfolding pair_rules well_shaped no_such_node
pair_asked o s t e =
    let p = split (shape_rules o) 12 _ (shape_counted o) (omega arith) e in
    let q = or-false (no_such_node o s) (no_such_node o t) (unfold no_such_node in p.1) in
    record {
      shaped = unfold well_shaped in eq-eqb (first_broken (shape_rules o)) 0 p.0;
      hs = leb-false (node_count (node_body o)) s (unfold no_such_node in q.0);
      ht = leb-false (node_count (node_body o)) t (unfold no_such_node in q.1);
    }

pub time_asked : (o : Bytes) (s t words : ℕ) → first_broken (time_rules o s t words) ≡ 0 → Asked o s t
unfolding time_rules
time_asked o s t words e = pair_asked o s t (split (pair_rules o s t) 14 _ (calls.pair_counted o s t) (omega arith) e).0

-- ---- a sheet without lines: the same number, whatever the oracle, the question and what is lent

-- Lists of rules with the same first broken rule, and the same rules after them.
same_first : (xs ys zs : List Rule) → counted xs ≡ true → counted ys ≡ true → first_broken xs ≡ first_broken ys → first_broken (xs ++ zs) ≡ first_broken (ys ++ zs)
same_first xs ys zs c d e = pick (ℕ_discrete (first_broken ys) 0)
  where
    pick : Dec (first_broken ys ≡ 0) → first_broken (xs ++ zs) ≡ first_broken (ys ++ zs)
    pick (yes q) = first_append xs zs c (e ∙ q) ∙ sym (first_append ys zs d q)
    pick (no n) = first_stays xs zs (λ q. n (sym e ∙ q)) ∙ (e ∙ sym (first_stays ys zs n))

module _ (o sheet : Bytes) (formed : sheet_broken sheet ≡ false) (empty : line_count (line_body sheet) ≡ 0) (s t : ℕ) where
  sheet_kept : Asked o s t → first_broken (sheet_rules o sheet) ≡ 0
  unfolding sheet_rules
  sheet_kept a =
      sym (goes 18 _ formed (goes 19 _ (empty_names sheet empty (edge_count (edge_body o)))
      (goes 20 [] (empty_slow sheet empty o (all_shaped o a.shaped).sound) none)))

  pair_same : first_broken (pair_under_rules o sheet s t) ≡ first_broken (pair_rules o s t)
  unfolding pair_under_rules
  pair_same = pick (ℕ_discrete (first_broken (pair_rules o s t)) 0)
    where
      pick : Dec (first_broken (pair_rules o s t) ≡ 0) → first_broken (pair_rules o s t ++ sheet_rules o sheet) ≡ first_broken (pair_rules o s t)
      pick (yes q) = first_append (pair_rules o s t) (sheet_rules o sheet) (calls.pair_counted o s t) q ∙ (sheet_kept (pair_asked o s t q) ∙ sym q)
      pick (no n) = first_stays (pair_rules o s t) (sheet_rules o sheet) n

  pub time_same : (words : ℕ) → first_broken (time_under_rules o sheet s t words) ≡ first_broken (time_rules o s t words)
  unfolding time_under_rules time_rules
  time_same words = same_first (pair_under_rules o sheet s t) (pair_rules o s t) _ (pair_counted o sheet s t) (calls.pair_counted o s t) pair_same

  pub way_same : way_under (effects sheet) o s t ≡ way (network o) s t
  unfolding way_under
  way_same = rw (empty_network sheet empty o)

  pub route_same : (words room : ℕ) → first_broken (way_under_rules o sheet s t words room) ≡ first_broken (way_rules o s t words room)
  unfolding way_under_rules way_rules
  route_same words room =
      rw way_same (same_first (time_under_rules o sheet s t words) (time_rules o s t words)
      (rule 15 (output_too_small (number_size * length (way (network o) s t)) room) ∷ [])
      (time_counted o sheet s t words) (calls.time_counted o s t words) (time_same words))
