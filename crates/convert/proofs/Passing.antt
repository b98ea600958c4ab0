-- What an old network and a sheet have that no rule before 15 refuses, and what the calls then say. Assumes nothing.
use Prim.Native.Nat.{ℕ, ◌*◌, ◌/◌, ◌%◌, ◌<◌, ◌≤◌}
use native.Mathlib.Omega.{arith}
use mathlib.Core.Path.{◌≡◌, refl, sym, ◌∙◌}
use mathlib.Core.Bool.{true, false, not, ◌||◌}
use mathlib.Core.List.{List, []}
use lib.Dec.{eqb, ltb, leb}
use lib.ListN.{length, get_or, drop, length-take}
use borrow.Author.Tests.{ltb-false, eqb-true}
use Rattle.model.specs.Lists.{any, rising}
use Rattle.model.specs.Bytes.{Bytes, word16, word32, words16, cut, number_size}
use Rattle.model.specs.Contents.{network_edition, network_entries, entry, entry_at, body_part, body, node_body, edge_body, closed_body}
use Rattle.model.specs.Network.{node_size, edge_size, max_nodes, max_edges, node_count, edge_count, nodes_broken, edges_broken, numbers_broken}
use Rattle.model.specs.Rules.{Rule, first_broken, network_rules}
use Rattle.model.specs.declared.Output.{Output}
use Rattle.theory.specs.Firsts.{counted, passed, none}
use Rattle.theory.specs.Passed.{Sound, Rest, or-false, not-false, network_counted, network_passed}
use Rattle.contents.specs.Reading.{contents_of, HasBodies}
use Rattle.contents.specs.declared.Contents.{Contents}
use Rattle.sheet.specs.Sheet.{line_body, sheet_broken}
use Rattle.convert.specs.Old.{closed_in}
use Rattle.convert.specs.Convert.{converted, convert_rules, convert_refusal, ConvertCall}
use Rattle.convert.specs.Convert.{converted_sheet, convert_sheet_rules, convert_sheet_refusal, ConvertSheetCall}
use Rattle.convert.specs.Parts.{network_of, OldBodies, sheet_left, lines_rules, Given}
use Rattle.convert.proofs.Results.{call_refused, call_given}

-- ---- rules 3, 5 and 7
few_nodes : (b : Bytes) → nodes_broken b ≡ false → length b ≤ node_size * max_nodes
unfolding nodes_broken node_count
few_nodes b h =
    let p = or-false (not (eqb (length b % node_size) 0) || ltb (length b / node_size) 1) (ltb max_nodes (length b / node_size)) h in
    let whole = eqb-true (length b % node_size) 0 (not-false (or-false (not (eqb (length b % node_size) 0)) (ltb (length b / node_size) 1) p.0).0) in
    omega (arith, whole, ltb-false max_nodes (length b / node_size) p.1)

few_edges : (b : Bytes) → edges_broken b ≡ false → length b ≤ edge_size * max_edges
unfolding edges_broken edge_count
few_edges b h =
    let p = or-false (not (eqb (length b % edge_size) 0)) (ltb max_edges (length b / edge_size)) h in
    omega (arith, eqb-true (length b % edge_size) 0 (not-false p.0), ltb-false max_edges (length b / edge_size) p.1)

closed_kept : (m : ℕ) (b : Bytes) → numbers_broken m b ≡ false → (rising (words16 b) ≡ true) × (any (leb m) (words16 b) ≡ false)
unfolding numbers_broken
closed_kept m b h =
    let p = or-false (not (eqb (length b % number_size) 0) || not (rising (words16 b))) (any (leb m) (words16 b)) h in
    (not-false (or-false (not (eqb (length b % number_size) 0)) (not (rising (words16 b))) p.0).1, p.1)

old_bodies : (f : Bytes) → Sound f → OldBodies (node_body f) (edge_body f) (closed_body f)
old_bodies f s =
    let k = closed_kept (edge_count (edge_body f)) (closed_body f) s.closed in
    record { few_nodes = few_nodes (node_body f) s.nodes_rule; few_edges = few_edges (edge_body f) s.edges_rule; rises = k.0; named = k.1 }

-- ---- the network's call; `k` is the first of rules 1 to 7 that is broken
abbrev old_rules : Bytes → List Rule
old_rules f = network_rules network_edition network_entries f

module _ (f : Bytes) (k : ℕ) (e : k ≡ first_broken (old_rules f)) where
  pub old_passed : k ≡ 0 → Rest network_edition network_entries f []
  unfolding network_rules
  old_passed z = network_passed network_edition network_entries f [] (sym e ∙ z)

  pub old_contents : k ≡ 0 → {c : Contents} → c ≡ contents_of network_entries f → HasBodies network_entries f c
  old_contents z r j h = record { entries = network_entries; few = omega arith; below = h; read = r; joined = (old_passed z).bodies }

  pub convert_refused : (k ≡ 0 → ⊥) → (out : Bytes) → ConvertCall f out (record { rule = k; size = 0 }) out
  unfolding convert_refusal convert_rules
  convert_refused h out =
      let r = call_refused (old_rules f) (network_counted network_edition network_entries f) k e (converted f) out h in
      record { result = r.0; bytes = r.1 }

  module _ (nodes edges closed : Bytes) (p : nodes ≡ node_body f) (q : edges ≡ edge_body f) (s : closed ≡ closed_body f) (z : k ≡ 0) where
    pub bodies_passed : OldBodies nodes edges closed
    bodies_passed = rw (p, q, s) (old_bodies f (old_passed z).sound)

    pub convert_given : (out : Bytes) (r : Output) (out' : Bytes) → Given (network_of nodes edges closed) out r out' → ConvertCall f out r out'
    unfolding convert_refusal convert_rules
    convert_given out r out' g =
        let w = call_given (old_rules f) (network_counted network_edition network_entries f) k e (converted f) out z r out' (rw same g) in
        record { result = w.0; bytes = w.1 }
      where
        same : converted f ≡ network_of nodes edges closed
        same = rw (p, q, s) (unfold converted network_of closed_in in refl)

-- ---- the sheet's call: rules 1 to 7, and then 18 and 19; `k` is the first of them that is broken
module _ (f sheet : Bytes) (k : ℕ) (e : k ≡ first_broken (lines_rules f sheet)) where
  lines_counted : counted (lines_rules f sheet) ≡ true
  unfolding counted lines_rules network_rules
  lines_counted = refl

  pub sheet_refused : (k ≡ 0 → ⊥) → (out : Bytes) → ConvertSheetCall f sheet out (record { rule = k; size = 0 }) out
  unfolding convert_sheet_refusal convert_sheet_rules lines_rules network_rules
  sheet_refused h out =
      let r = call_refused (lines_rules f sheet) lines_counted k e (converted_sheet f sheet) out h in
      record { result = r.0; bytes = r.1 }

  module _ (z : k ≡ 0) where
    pub lines_passed : Rest network_edition network_entries f [] × (sheet_broken sheet ≡ false)
    unfolding lines_rules
    lines_passed =
        let r = network_passed network_edition network_entries f _ (sym e ∙ z) in
        (record { contents = r.contents; bodies = r.bodies; sound = r.sound; rest = sym none }, (passed 18 (sheet_broken sheet) _ (omega arith) r.rest).0)

    module _ (closed lines : Bytes) (p : closed ≡ closed_body f) (q : lines ≡ line_body sheet) where
      pub closed_passed : rising (words16 closed) ≡ true
      closed_passed = rw p (old_bodies f lines_passed.0.sound).rises

      pub sheet_given : (out : Bytes) (r : Output) (out' : Bytes) → Given (sheet_left closed lines) out r out' → ConvertSheetCall f sheet out r out'
      unfolding convert_sheet_refusal convert_sheet_rules lines_rules network_rules
      sheet_given out r out' g =
          let w = call_given (lines_rules f sheet) lines_counted k e (converted_sheet f sheet) out z r out' (rw same g) in
          record { result = w.0; bytes = w.1 }
        where
          same : converted_sheet f sheet ≡ sheet_left closed lines
          same = rw (p, q) (unfold converted_sheet sheet_left closed_in in refl)

-- The size that the entry of a sheet holds has 32 bits.
pub lines_small : (sheet : Bytes) → ((i : ℕ) → get_or sheet i 0 < 256) → {lines : Bytes} → lines ≡ line_body sheet → length lines < 4294967296
unfolding body cut body_part entry entry_at
lines_small sheet h q =
    let size : word32 sheet 7 < 4294967296 = unfold word32 word16 in omega (arith, h 7, h 8, h 9, h 10) in
    rw q (omega (arith, length-take (word32 sheet 7) (drop (word32 sheet 3) sheet), size))
