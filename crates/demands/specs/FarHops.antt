-- Rules 10 and 11 bound the hops of what the lists and the table of a well-shaped oracle hold. Assumes nothing.
use Rattle.std.specs.Prelude.{ℕ, ◌+◌, ◌*◌, ◌≤◌, ◌<◌, ◌≡◌, Bool, true, false, not, ◌&&◌, ◌||◌, cond, length, eqb, ltb, leb}
use Rattle.std.proofs.Math.Nat.{suc-mul, mul-le-mul_right}
use Rattle.std.proofs.Common.{arith, sym, ◌∙◌, ap}
use mathlib.Core.List.{map, Memᴰ}
use borrow.Author.Tests.{ltb-false, leb-false}
use Rattle.model.specs.Lists.{gapless, rising, any, up_to}
use Rattle.model.specs.Bytes.{Bytes, number_size}
use Rattle.model.specs.Contents.{node_body, transit_body, access_body, table_body}
use Rattle.model.specs.Pair.{seconds_of, hops_of}
use Rattle.model.specs.Distance.{unreachable, finite}
use Rattle.model.specs.Network.{node_count}
use Rattle.model.specs.Oracle.{no_walk, max_value, max_hops, value_size, decoded, value_key, value, key_broken, value_broken, start_size}
use Rattle.model.specs.Oracle.{AccessEntry, transit_count, list_part, list_count, access_at, access_entry, access_list, indexes, table_entry}
use Rattle.model.specs.Oracle.{entry_broken, list_broken, access_broken, cell_broken, table_broken}
use Rattle.theory.specs.Members.{none_any, →up_to, map→}
use Rattle.theory.specs.Least.{apart, time_inj}
use Rattle.theory.specs.Passed.{or-false, Shaped}

value_hops : (b : Bytes) (p k : ℕ) → value_broken b p ≡ false → value b p ≡ finite k → hops_of k ≤ max_hops
unfolding value_broken key_broken value decoded
value_hops b p k h e = step (eqb (value_key b p) no_walk) (value_key b p) h e
  where
    step : (c : Bool) (v : ℕ) → not c && (ltb max_value (seconds_of v) || ltb max_hops (hops_of v)) ≡ false → cond c unreachable (finite v) ≡ finite k
        → hops_of k ≤ max_hops
    step true v h e = absurd (apart e)
    step false v h e =
        let q : v ≡ k = time_inj e in
        let r : hops_of v ≤ max_hops = ltb-false max_hops (hops_of v) (or-false (ltb max_value (seconds_of v)) (ltb max_hops (hops_of v)) h).1 in
        omega arith

module _ (o : Bytes) (shaped : Shaped o) where
  abbrev N : ℕ
  N = node_count (node_body o)

  abbrev T : ℕ
  T = transit_count (transit_body o)

  -- An entry's index names a row, and its distance has few hops.
  pub entry_hops : (u : ℕ) → u < N → {e : AccessEntry} → Memᴰ e (access_list (access_body o) u)
      → (e.index < T) × ((k : ℕ) → e.distance ≡ finite k → hops_of k ≤ max_hops)
  unfolding access_broken list_broken entry_broken access_list access_entry
  entry_hops u h {e} m =
      let b = access_body o in
      let r = map→ (access_entry b u) (up_to (list_count b u)) m in
      let lists = (or-false (not (gapless (start_size * N) (map (list_part b) (up_to N)) (length b))) (any (list_broken T b) (up_to N)) shaped.access).1 in
      let its = (or-false (not (rising (indexes b u))) (any (entry_broken T b u) (up_to (list_count b u)))
      (none_any (list_broken T b) (up_to N) lists (→up_to N u h))).1 in
      let fine = or-false (leb T (access_entry b u r.0).index) (value_broken b (access_at b u r.0 + number_size))
      (none_any (entry_broken T b u) (up_to (list_count b u)) its r.1) in
      let below : (access_entry b u r.0).index < T = leb-false T (access_entry b u r.0).index fine.0 in (
        rw (ap (λ (x : AccessEntry). x.index) r.2) below,
        λ k q. value_hops b (access_at b u r.0 + number_size) k fine.1 (sym (ap (λ (x : AccessEntry). x.distance) r.2) ∙ q),
      )

  pub cell_hops : (i j : ℕ) → i < T → j < T → (k : ℕ) → table_entry (table_body o) T i j ≡ finite k → hops_of k ≤ max_hops
  unfolding table_broken cell_broken table_entry
  cell_hops i j p q k e =
      let b = table_body o in
      let cells = (or-false (not (eqb (length b) (value_size * (T * T)))) (any (cell_broken b) (up_to (T * T))) shaped.table).1 in
      let inside : i * T + j < T * T = omega (arith, mul-le-mul_right T p, suc-mul i T) in
      value_hops b (value_size * (i * T + j)) k (none_any (cell_broken b) (up_to (T * T)) cells (→up_to (T * T) (i * T + j) inside)) e
