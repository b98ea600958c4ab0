-- How long the lines are at most, and how many nodes a file can have. Assumes nothing.
use Prim.Native.Nat.{ℕ, zero, suc, ◌*◌, ◌-◌, ◌≤◌}
use native.Mathlib.Omega.{arith}
use mathlib.Core.List.{◌++◌}
use lib.ListN.{length, drop, length-append, length-take, length-drop}
use Rattle.model.specs.Lists.{range, concat_map}
use Rattle.model.specs.Bytes.{Bytes, cut}
use Rattle.model.specs.Contents.{body, node_body, body_part}
use Rattle.model.specs.Network.{node_size, node_count}
use Rattle.model.specs.Query.{time_answer}
use Rattle.model.specs.Rules.{words_needed}
use Rattle.model.specs.Listing.{decimal, blank, line_feed, kind_text, answer_text, pair_line, header, refused_line}
use Rattle.model.specs.declared.Kind.{Kind}
use Rattle.model.specs.declared.Kind.TheVariants.{Far, Local}
use Rattle.model.specs.declared.Answer.{Answer}
use Rattle.model.specs.declared.Answer.TheVariants.{Time, None, Refused}
use Rattle.lines.specs.Texts.{Room, field_text, pair_text, row_text}
use Rattle.lines.proofs.Digits.{few_digits}
use Rattle.lines.proofs.Parts.{pair_parts, header_parts, refused_parts, after_count}

few_decimal : (n : ℕ) → length (decimal n) ≤ 10
unfolding decimal
few_decimal n = few_digits 10 n

few_field : (n : ℕ) → length (field_text n) ≤ 11
unfolding field_text
few_field n = omega (arith, few_decimal n, length-append (decimal n) blank)

few_kind : (k : Kind) → length (kind_text k) ≤ 5
unfolding kind_text
few_kind Far = omega arith
few_kind Local = omega arith

few_answer : (a : Answer) → length (answer_text a) ≤ 16
unfolding answer_text
few_answer (Time seconds hops kind pairs) = omega (
  arith,
  few_decimal seconds,
  few_kind kind,
  length-append (decimal seconds ++ blank) (kind_text kind),
  length-append
      (decimal seconds) blank,
)
few_answer (None kind pairs) = omega (arith, few_kind kind, length-append blank (kind_text kind))
few_answer (Refused rule) = omega arith

few_pair : (s t : ℕ) (a : Answer) → length (pair_text s t a) ≤ 40
few_pair s t a =
    rw (pair_parts s t a)
    (omega (
      arith,
      few_field s,
      few_field t,
      few_answer a,
      length-append (field_text s) (field_text t ++ (answer_text a ++ line_feed)),
      length-append (field_text t) (answer_text a ++ line_feed),
      length-append (answer_text a) line_feed,
    ))

few_line : (o : Bytes) (s t : ℕ) → length (pair_line o s t) ≤ 40
few_line o s t = unfold pair_line in (unfold pair_text in few_pair s t (time_answer o s t))

few_lines : (o : Bytes) (s t k : ℕ) → length (concat_map (pair_line o s) (range t k)) ≤ 40 * k
unfolding concat_map range
few_lines o s t zero = omega arith
few_lines o s t (suc k) = omega (arith, few_lines o s (suc t) k, few_line o s t, length-append (pair_line o s t) (concat_map (pair_line o s) (range (suc t) k)))

-- Each node takes its bytes of the file.
pub few_nodes : (o : Bytes) → node_size * node_count (node_body o) ≤ length o
unfolding node_count body cut
few_nodes o = omega (arith, length-take (body_part o 0).size (drop (body_part o 0).start o), length-drop (body_part o 0).start o)

pub words_enough : (o : Bytes) (words : ℕ) → length o ≤ words → words_needed o ≤ words
unfolding words_needed
words_enough o words h = omega (arith, few_nodes o, h)

module _ (out : Bytes) where
  pub room_row : (o : Bytes) (s : ℕ) → 5 * length o ≤ length out → Room out 0 (row_text o s)
  unfolding row_text
  room_row o s h = record { fits = omega (arith, h, few_lines o s (suc s) (node_count (node_body o) - suc s), few_nodes o) }

  pub room_refused : (rule : ℕ) → 40 ≤ length out → Room out 0 (refused_line rule)
  room_refused rule h = rw refused_parts (record { fits = omega (arith, h, few_decimal rule, length-append (decimal rule) line_feed) })

  pub room_header : (n T : ℕ) → 40 ≤ length out → Room out 0 (header n T)
  room_header n T h =
      rw header_parts
      (record { fits = omega (arith, h, few_field n, few_decimal T, length-append (field_text n) (after_count T), length-append (decimal T) line_feed) })
