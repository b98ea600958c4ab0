-- What writing a way hands back and writes. Assumes nothing.
use Prim.Native.Nat.{ℕ, ◌*◌, ◌≤◌, ◌<◌}
use native.Mathlib.Omega.{arith}
use mathlib.Core.Path.{◌≡◌, refl, sym, ap, ◌∙◌}
use mathlib.Core.List.{List, ◌++◌}
use lib.ListN.{length, take, drop, length-append}
use lib.Seq.{take_at}
use Rattle.model.specs.Lists.{concat_map}
use Rattle.model.specs.Bytes.{Bytes, bytes16, splice, number_size}
use Rattle.theory.specs.Splices.{splice_front}
use Rattle.theory.specs.ReadLaws.{length_numbers}
use Rattle.model.specs.Calls.{route_after}
use Rattle.opened.specs.Room.{NodesGiven}
use Rattle.opened.proofs.Outputs as outputs

-- `nodes` are those of the way, and `size` is its length in bytes as the code has it.
module _ (nodes : List ℕ) (size : ℕ) (e : size ≡ number_size * length nodes) (out : Bytes) where
  pub given_short : length out < size → NodesGiven nodes out (record { rule = 15; nodes = 0 }) out
  given_short h = outputs.given_short (λ k. route_after k nodes) (number_size * length nodes) (concat_map bytes16 nodes) out (omega (arith, e))
      (unfold route_after in refl)

  pub given_way : (count : ℕ) → count ≡ length nodes → (out' : Bytes) → size ≤ length out
      → out' ≡ concat_map bytes16 nodes ++ drop (length (concat_map bytes16 nodes)) out → NodesGiven nodes out (record { rule = 0; nodes = count }) out'
  given_way count k out' h q = outputs.given_whole (λ k. route_after k nodes) (number_size * length nodes) (concat_map bytes16 nodes) out (omega (arith, e))
      (rw k (unfold route_after in refl)) q

  -- It was written at the front of other bytes first.
  pub found_room : (found rest : Bytes) → found ≡ splice 0 (concat_map bytes16 nodes) rest → size ≤ length found
  found_room found rest q =
      let bs = concat_map bytes16 nodes in
      omega (arith, e, length_numbers nodes, ap length (q ∙ splice_front bs rest), length-append bs (drop (length bs) rest))

  pub given_copy : (found rest : Bytes) → found ≡ splice 0 (concat_map bytes16 nodes) rest
      → take size found ++ drop size out ≡ concat_map bytes16 nodes ++ drop (length (concat_map bytes16 nodes)) out
  given_copy found rest q =
      let l = e ∙ sym (length_numbers nodes) in
      rw (q, splice_front (concat_map bytes16 nodes) rest, take_at (concat_map bytes16 nodes) (drop (length (concat_map bytes16 nodes)) rest) size (sym l), ← l)
