-- The record holds the entries that were read, so that a body is found by it. Assumes nothing.
use Prim.Native.Nat.{ℕ, zero, suc, ◌+◌, ◌-◌, ◌<◌, ◌≤◌}
use native.Mathlib.Nat.{add-sub_cancel_left}
use native.Mathlib.Omega.{arith}
use native.Mathlib.Decide.{ℕ_discrete}
use mathlib.Core.Path.{◌≡◌, refl, sym, ◌∙◌}
use lib.ListN.{length, get_or, set, take, drop, length-set}
use lib.Seq.{get_or-set_same, get_or-set_other}
use borrow.Author.Tests.{eqb-true, not-false}
use Rattle.model.specs.Bytes.{Bytes, cut}
use mathlib.Core.Bool.{false}
use Rattle.model.specs.Contents.{body_part, body, bodies_broken, oracle_entries}
use Rattle.theory.specs.Tests.{both}
use Rattle.contents.specs.Reading.{no_entry, held, no_contents, extended, read_next, read_steps, contents_of, HasBody}
use Rattle.theory.specs.Joined.{body_within}
use Rattle.contents.specs.declared.Entry.{Entry}
use Rattle.contents.specs.declared.Contents.{Contents}
use Rattle.contents.proofs.Steps.{either, count_next}
use Rattle.contents.proofs.Joins.{finished, rule_2}

-- ---- the entries read

pub record HoldsEntries (f : Bytes) (c : Contents) : Type 0 where
  pub long : length c.entries ≡ oracle_entries
  pub same : (k : ℕ) → k < c.count → get_or c.entries k no_entry ≡ held f k

module _ (f : Bytes) where
  holds_more : (c : Contents) → c.count < oracle_entries → HoldsEntries f c → HoldsEntries f (extended f c)
  unfolding extended
  holds_more c h r = record { long = length-set c.entries c.count (held f c.count) ∙ r.long; same = λ k l. pick k l (ℕ_discrete k c.count) }
    where
      pick : (k : ℕ) → k < c.count + 1 → Dec (k ≡ c.count) → get_or (set c.entries c.count (held f c.count)) k no_entry ≡ held f k
      pick k l (yes e) = rw (e, get_or-set_same c.entries c.count (held f c.count) no_entry (omega (arith, h, r.long)))
      pick k l (no n) = get_or-set_other c.entries c.count k (held f c.count) no_entry n ∙ r.same k (omega arith)

  holds_steps : (m : ℕ) (c : Contents) → c.count + m ≤ oracle_entries → HoldsEntries f c → HoldsEntries f (read_steps m f c)
  unfolding read_steps
  holds_steps zero c h r = r
  holds_steps (suc m) c h r = holds_steps m (read_next f c) (omega (arith, count_next f c)) (either (HoldsEntries f) f c (holds_more c (omega arith) r) r)

  holds_none : (n : ℕ) → HoldsEntries f (no_contents n)
  unfolding no_contents
  holds_none n = record { long = refl; same = λ k l. absurd (omega arith) }

  pub holds_read : (n : ℕ) (c : Contents) → n ≤ oracle_entries → c ≡ contents_of n f → HoldsEntries f c
  unfolding contents_of no_contents
  holds_read n c h e = rw e (holds_steps n (no_contents n) (omega arith) (holds_none n))

-- ---- a body

module _ (f : Bytes) (c : Contents) (k : ℕ) (has : HasBody f c k) where
  count_all : c.count ≡ has.entries
  count_all = eqb-true c.count has.entries (both (not-false (finished f has.entries c) (sym (rule_2 f has.entries c has.read) ∙ has.joined))).0

  holds_all : HoldsEntries f c
  holds_all = holds_read f has.entries c has.few has.read

  -- the entry in the record
  abbrev at : Entry
  at = get_or c.entries k no_entry

  its_entry : at ≡ held f k
  its_entry = holds_all.same k (omega (arith, count_all, has.below))

  pub in_file : at.offset + at.size ≤ length f
  unfolding held
  in_file = rw its_entry (body_within f has.entries k has.joined has.below)

  pub its_part : take (at.offset + at.size - at.offset) (drop at.offset f) ≡ body f k
  unfolding held body cut body_part
  its_part = rw (its_entry, add-sub_cancel_left)

-- The same by the entry alone.
module _ (f : Bytes) (entries k : ℕ) (joined : bodies_broken entries f ≡ false) (below : k < entries) (e : Entry) (is : e ≡ held f k) where
  pub entry_in_file : e.offset + e.size ≤ length f
  unfolding held
  entry_in_file = rw is (body_within f entries k joined below)

  pub entry_part : take (e.offset + e.size - e.offset) (drop e.offset f) ≡ body f k
  unfolding held body cut body_part
  entry_part = rw (is, add-sub_cancel_left)
