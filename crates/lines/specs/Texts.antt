-- The listing in parts: one line, or a header and a row of lines for each node. Assumes nothing.
use Rattle.std.specs.Prelude.{ℕ, suc, ◌+◌, ◌-◌, ◌≤◌, ◌≡◌, [], ◌∷◌, ◌++◌, length, take}
use Rattle.std.proofs.Common.{ne_eqb}
use Rattle.model.specs.Lists.{range, up_to, concat_map}
use Rattle.model.specs.Bytes.{Bytes}
use Rattle.model.specs.Contents.{node_body, transit_body}
use Rattle.model.specs.Network.{node_count}
use Rattle.model.specs.Oracle.{transit_count}
use Rattle.model.specs.Rules.{first_broken, shape_rules}
use Rattle.model.specs.Listing.{decimal, blank, line_feed, kind_text, answer_text, pair_line, header, pair_lines, refused_line, listing_after, listing}
use Rattle.model.specs.declared.Kind.{Kind}
use Rattle.model.specs.declared.Answer.{Answer}

-- The text fits into `out` at position `at`.
pub record Room (out : Bytes) (at : ℕ) (text : Bytes) : Type 0 where
  pub fits : at + length text ≤ length out

-- `out` begins with the text, which ends at `end`.
pub record HoldsText (out : Bytes) (end : ℕ) (text : Bytes) : Type 0 where
  pub front : take end out ≡ text
  pub within : end ≤ length out

-- A number and a blank.
unfoldable pub field_text : ℕ → Bytes
field_text n = decimal n ++ blank

-- What is written of an answer: a time or none, and the kind.
unfoldable pub time_text : ℕ → Kind → Bytes
time_text seconds kind = field_text seconds ++ kind_text kind

unfoldable pub none_text : Kind → Bytes
none_text kind = (45 ∷ 32 ∷ []) ++ kind_text kind

-- The line of a pair with this answer.
unfoldable pub pair_text : ℕ → ℕ → Answer → Bytes
pair_text s t a = decimal s ++ blank ++ decimal t ++ blank ++ answer_text a ++ line_feed

-- The lines of the pairs of s with the nodes above it.
unfoldable pub row_text : Bytes → ℕ → Bytes
row_text o s = concat_map (pair_line o s) (range (suc s) (node_count (node_body o) - suc s))

-- What the program reads of its input.
abbrev pub read_part : Bytes → Bytes
read_part input = take 28_672 input

-- The listing is one line where a rule is broken, and else the header and the rows in order.
module _ (input : Bytes) where
  pub listing_refused : (first_broken (shape_rules (read_part input)) ≡ 0 → ⊥) → listing input ≡ refused_line (first_broken (shape_rules (read_part input)))
  unfolding listing listing_after
  listing_refused n = rw (ne_eqb _ 0 n)

  pub listing_rows : first_broken (shape_rules (read_part input)) ≡ 0
      → listing input ≡ header (node_count (node_body (read_part input))) (transit_count (transit_body (read_part input))) ++ concat_map (row_text (read_part input))
      (up_to (node_count (node_body (read_part input))))
  unfolding listing listing_after pair_lines row_text
  listing_rows e = rw e
