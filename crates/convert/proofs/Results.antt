-- What is written part by part is the whole result, and what the calls hand back and leave. Assumes nothing.
use Prim.Native.Nat.{ℕ, ◌+◌, ◌≤◌, ◌<◌}
use native.Mathlib.Omega.{arith}
use mathlib.Core.Path.{◌≡◌, refl, sym, ◌∙◌, ap}
use mathlib.Core.Bool.{true}
use mathlib.Core.List.{List, [], ◌∷◌, ◌++◌, append_assoc, append-nil}
use lib.ListN.{length, length-append}
use borrow.Author.Tests.{ne_eqb, lt-ltb, le-ltb}
use Rattle.model.specs.Lists.{concat}
use Rattle.model.specs.Bytes.{Bytes, splice, words16}
use Rattle.model.specs.Contents.{network_edition, network_head, entry_at}
use Rattle.model.specs.Rules.{Rule, rule, first_broken, output_too_small}
use Rattle.model.specs.Calls.{output_after, size_after}
use Rattle.model.specs.declared.Output.{Output}
use Rattle.theory.specs.Firsts.{counted, first_append, first_stays}
use Rattle.theory.specs.FileLaws.{length_file}
use Rattle.theory.specs.Splices.{splice_front}
use Rattle.emit.specs.Parts.{head_bytes}
use Rattle.emit.specs.PartLaws.{file_head}
use Rattle.emit.specs.Records.{Wrote}
use Rattle.emit.proofs.Pieces.{wrote_then}
use Rattle.convert.specs.Convert.{open_records}
use Rattle.convert.specs.Parts.{network_of, room_rule, Given}

-- ---- the network
module _ (nodes edges closed : Bytes) where
  abbrev opened : Bytes
  opened = open_records edges (words16 closed)

  abbrev head : Bytes
  head = head_bytes network_edition (length nodes ∷ length opened ∷ 0 ∷ [])

  network_parts : network_of nodes edges closed ≡ (head ++ nodes) ++ opened
  unfolding network_of concat
  network_parts =
      file_head network_edition (nodes ∷ opened ∷ [] ∷ []) ∙
      (ap (λ (r : Bytes). head ++ (nodes ++ r)) (append-nil opened) ∙ sym (append_assoc head nodes opened))

  pub length_network : length (network_of nodes edges closed) ≡ network_head + length nodes + length opened
  unfolding network_of concat entry_at
  length_network = rw (length_file network_edition (nodes ∷ opened ∷ [] ∷ []), append-nil opened) (omega (arith, length-append nodes opened))

  module _ (left : ℕ) (e : left ≡ length opened) (old : Bytes) (room : network_head + length nodes + left ≤ length old) where
    pub network_written : {mid next new : Bytes} {at end : ℕ} → Wrote old 0 (head_bytes network_edition (length nodes ∷ left ∷ 0 ∷ [])) network_head mid
        → Wrote mid network_head nodes at next → Wrote next at opened end new → new ≡ splice 0 (network_of nodes edges closed) old
    network_written p q r =
        let two = wrote_then (rw e at p) q (omega arith) in
        let all = wrote_then two r (omega (arith, q.ends)) in
        rw network_parts all.spliced

-- ---- rule 15; `size` is the size as the code has it
module _ (result out : Bytes) (size : ℕ) (e : size ≡ length result) where
  pub given_short : length out < size → Given result out (record { rule = 15; size = 0 }) out
  given_short h = record { handed = rw broken (unfold size_after in refl); bytes = rw broken (unfold output_after in refl) }
    where
      broken : room_rule result out ≡ 15
      broken = unfold room_rule output_too_small in rw (lt-ltb (length out) (length result) (omega (arith, e)))

  pub given_whole : size ≤ length out → {out' : Bytes} → out' ≡ splice 0 result out → Given result out (record { rule = 0; size = size }) out'
  given_whole h q = record {
    handed = rw kept (unfold size_after in ap (λ (n : ℕ). record { rule = 0; size = n }) e);
    bytes = rw kept (unfold output_after in q ∙ splice_front result out);
  }
    where
      kept : room_rule result out ≡ 0
      kept = unfold room_rule output_too_small in rw (le-ltb (length out) (length result) (omega (arith, e)))

-- ---- the whole call; `k` is the first of the rules before 15 that is broken
module _ (rs : List Rule) (numbered : counted rs ≡ true) (k : ℕ) (e : k ≡ first_broken rs) (result out : Bytes) where
  abbrev all : ℕ
  all = first_broken (rs ++ (rule 15 (output_too_small (length result) (length out)) ∷ []))

  pub call_refused : (k ≡ 0 → ⊥) → (record { rule = k; size = 0 } ≡ size_after all result) × (out ≡ output_after all result out)
  call_refused h =
      let same : all ≡ k = first_stays rs _ (λ z. h (e ∙ z)) ∙ sym e in
      rw same (unfold size_after output_after in rw (ne_eqb k 0 h) (refl, refl))

  pub call_given : k ≡ 0 → (r : Output) (out' : Bytes) → Given result out r out' → (r ≡ size_after all result) × (out' ≡ output_after all result out)
  call_given z r out' g =
      let same : all ≡ room_rule result out = first_append rs _ numbered (sym e ∙ z) ∙ unfold room_rule first_broken in refl in
      rw same (g.handed, g.bytes)
