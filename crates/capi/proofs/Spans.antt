-- Where a list stands in a well-shaped oracle. Assumes nothing.
use Prim.Native.Nat.{ℕ, ◌+◌, ◌≤◌, ◌<◌}
use native.Mathlib.Omega.{arith}
use mathlib.Core.Path.{◌≡◌, ◌∙◌, ap}
use lib.ListN.{length, drop, length-drop}
use lib.Seq.{length-take-le}
use borrow.Author.Tests.{ne_eqb}
use Rattle.model.specs.Bytes.{Bytes, word32, cut}
use Rattle.model.specs.Contents.{node_body, transit_body, access_body, entry_at, entry, body_part, oracle_edition, oracle_entries, oracle_head}
use Rattle.model.specs.Network.{node_count}
use Rattle.model.specs.Oracle.{list_start, list_part, transit_count}
use Rattle.model.specs.Query.{list_span}
use Rattle.theory.specs.Passed.{Shaped}
use Rattle.theory.specs.Joined.{whole_contents, list_within}
use Rattle.capi.specs.Replies.{span, list_reply}

module _ (o : Bytes) (shaped : Shaped o) where
  pub long : oracle_head ≤ length o
  unfolding entry_at
  long = whole_contents oracle_edition oracle_entries o shaped.contents

  module _ (u : ℕ) (h : u < node_count (node_body o)) where
    abbrev b : Bytes
    b = access_body o

    abbrev n : ℕ
    n = node_count (node_body o)

    within : (list_part b u).start + (list_part b u).size ≤ length b
    unfolding list_part
    within = list_within n (transit_count (transit_body o)) b u shaped.access h

    -- `a` is the access body as it was lent, and `start` the start read in it.
    module _ (a : Bytes) (is : a ≡ b) (start : ℕ) (read : start ≡ list_start a u) where
      pub start_within : start ≤ length a
      unfolding list_part
      start_within = rw (read, is) (omega (arith, within))

      pub place : (offset : ℕ) (list : Bytes) → offset ≡ word32 o (entry_at 5 + 1) → list ≡ cut (list_part a u) a
          → record { start = offset + start; size = length list } ≡ span o u
      unfolding span list_span body_part entry cut list_part
      place offset list p r =
          let e : length list ≡ (list_part b u).size =
          ap length r ∙ rw is (length-take-le (list_part b u).size (drop (list_part b u).start b) (simp length-drop (omega (arith, within)))) in
          rw (p, read, is, e)

-- ---- after the number of the broken rule
pub nowhere : (rule : ℕ) (o : Bytes) (u : ℕ) → (rule ≡ 0 → ⊥) → record { start = 0; size = 0 } ≡ list_reply rule o u
unfolding list_reply
nowhere rule o u h = rw (ne_eqb rule 0 h)

pub given : (rule : ℕ) (o : Bytes) (u : ℕ) → rule ≡ 0 → span o u ≡ list_reply rule o u
unfolding list_reply
given rule o u e = rw e
