-- What any outcome that keeps the block's contract gives. `BlockCall` and `TimeCall` are the contracts of `block` and `time`. Assumes nothing.
use Rattle.std.specs.Prelude.{ℕ, ◌≤◌, ◌<◌, ◌≡◌, refl, true, false, List, [], ◌∷◌, map, length, get_or}
use Rattle.std.proofs.Common.{arith, sym, ◌∙◌, ne_eqb}
use Rattle.std.proofs.Math.Path.{ap}
use Rattle.model.specs.Bytes.{Bytes}
use Rattle.model.specs.Contents.{node_body}
use Rattle.model.specs.Pair.{key, seconds_of, hops_of}
use Rattle.model.specs.Walk.{PairWalk}
use Rattle.model.specs.Distance.{IsLeastPair}
use Rattle.model.specs.Network.{network, node_count, timed_arcs, distance}
use Rattle.model.specs.Oracle.{oracle, coded, decoded}
use Rattle.model.specs.Query.{distance_of, time_word, seconds_word, hops_word}
use Rattle.model.specs.Lists.{any}
use Rattle.model.specs.Rules.{network_rules, shape_rules, accepted, no_such_node, words_needed}
use Rattle.model.specs.Calls.{cleared, answer_after, time_result, TimeCall}
use Rattle.model.specs.declared.Answer.{Answer}
use Rattle.model.specs.declared.Division.{Division}
use Rattle.theory.specs.Passed.{Sound, all_passed}
use Rattle.theory.specs.Sound.{count_nodes, near}
use Rattle.theory.specs.Sound as sound
use Rattle.theory.specs.ReadLaws.{decoded_coded}
use Rattle.theory.specs.Keys.{key_of_pair}
use Rattle.theory.proofs.ExactTimes.{time_exact}
use Rattle.theory.specs.Accepted.{good}
use Rattle.theory.specs.Built.{bodies_of}
use Rattle.theory.specs.BuiltCalls.{time_kept}
use Rattle.theory.specs.PairModel.{distance_pair}
use Rattle.model.proofs.Meanings.{meaning_injective}
use Rattle.demands.specs.Outcomes.{Refuses}
use Rattle.demands.proofs.CallLaws as laws
use Rattle.block.specs.Block.{max_names, sides_rules, block_rules, unused_row, unused_block, refused, block_refusal, block_after, BlockCall}
use Rattle.block.specs.Block as block
use Rattle.block.specs.Twelve.{square, row_unused, square_unused, square_used}
use Rattle.checks.specs.RuleLists.{named_rules}
use Rattle.checks.proofs.NameLists.{named_there}
use Rattle.block.specs.Kept.{BlockKept}
use Rattle.block.proofs.Kept.{block_kept}
use Rattle.block.specs.declared.Block.{Block}

-- "17 .. directly after 12", and 21 "directly after 7" (document 02, T-01 and T-06).
pub block_order : (o : Bytes) (starts ends : List ℕ) (words : ℕ) → map (λ r. r.number) (block_rules o starts ends words)
    ≡ 1 ∷ 2 ∷ 3 ∷ 4 ∷ 5 ∷ 6 ∷ 7 ∷ 21 ∷ 8 ∷ 9 ∷ 10 ∷ 11 ∷ 12 ∷ 17 ∷ 14 ∷ []
unfolding block_rules sides_rules named_rules shape_rules network_rules
block_order o starts ends words = refl

-- ---- demand 1: "hands back the number of the first rule broken and writes nothing", and the two blocks beside it are all zeros
block_rule : (k : ℕ) (o : Bytes) (starts ends : List ℕ) → (block_after k o starts ends).rule ≡ k
unfolding block_after block.given refused
block_rule k o starts ends = laws.after k (λ (b : Block). b.rule) (block.given o starts ends) (refused k) refl refl

module _ {o : Bytes} {starts ends work work' : List ℕ} {r : Block} (call : BlockCall o starts ends work r work') where
  number : r.rule ≡ block_refusal o starts ends work
  number = ap (λ (b : Block). b.rule) call.result ∙ block_rule (block_refusal o starts ends work) o starts ends

  pub block_refuses : Refuses (block_rules o starts ends (length work)) r.rule o work work' [] []
  unfolding block_refusal
  block_refuses = rw (number, call.words) (laws.without_output (block_rules o starts ends (length work)) o work)

  pub refused_zeros : (r.rule ≡ 0 → ⊥) → (r.times ≡ unused_block) × (r.hops ≡ unused_block)
  unfolding block_after refused
  refused_zeros h =
      let e : r ≡ refused (block_refusal o starts ends work) = call.result ∙ rw (ne_eqb (block_refusal o starts ends work) 0 (λ e. h (number ∙ e))) in
      (ap (λ (b : Block). b.times) e, ap (λ (b : Block). b.hops) e)

  -- ---- demand 3, for each square of a block that is not refused: its time and its hops
  module _ (given : r.rule ≡ 0) where
    none : block_refusal o starts ends work ≡ 0
    none = sym number ∙ given

    kept : BlockKept o starts ends (length work)
    unfolding block_refusal
    kept = block_kept o starts ends (length work) none

    filled : r ≡ block.given o starts ends
    unfolding block_after
    filled = call.result ∙ rw none

    times_are : r.times ≡ block.block_by (seconds_word o) starts ends
    unfolding block.given
    times_are = ap (λ (b : Block). b.times) filled

    hops_are : r.hops ≡ block.block_by (hops_word o) starts ends
    unfolding block.given
    hops_are = ap (λ (b : Block). b.hops) filled

    -- "Success zeroes those words where the call has them .. and touches nothing past".
    pub words_zeroed : work' ≡ cleared (words_needed o) work
    words_zeroed = call.words ∙ rw none (laws.words_done o work)

    -- Unused squares are zero, in a row for a start and in a row for none.
    pub unused_row_law : (i : ℕ) → length starts ≤ i → i < max_names → (get_or r.times i [] ≡ unused_row) × (get_or r.hops i [] ≡ unused_row)
    unused_row_law i h k = rw (times_are, hops_are) (row_unused (seconds_word o) starts ends i h k, row_unused (hops_word o) starts ends i h k)

    module _ (i : ℕ) (hi : i < length starts) where
      pub unused_square : (j : ℕ) → length ends ≤ j → j < max_names → (square r.times i j ≡ 0) × (square r.hops i j ≡ 0)
      unused_square j h k = rw (times_are, hops_are) (square_unused (seconds_word o) starts ends i hi j h k, square_unused (hops_word o) starts ends i hi j h k)

      module _ (j : ℕ) (hj : j < length ends) where
        abbrev s : ℕ
        s = get_or starts i 0

        abbrev t : ℕ
        t = get_or ends j 0

        square_is : (square r.times i j ≡ seconds_of (time_word o s t)) × (square r.hops i j ≡ hops_of (time_word o s t))
        unfolding seconds_word hops_word
        square_is = rw (times_are, hops_are) (square_used (seconds_word o) starts ends i hi j hj, square_used (hops_word o) starts ends i hi j hj)

        -- "Each square equals the single answer for its pair, equal places and repeated names included": what `time` hands back, of any words that are
        -- enough, 'no walk' marked by 4,294,967,295 seconds and 65,535 hops.
        pub square_as_time : {words words' : List ℕ} {a : Answer} → TimeCall o s t words a words' → words_needed o ≤ length words
            → (square r.times i j ≡ seconds_of (coded (distance_of a))) × (square r.hops i j ≡ hops_of (coded (distance_of a)))
        unfolding time_result answer_after time_word
        square_as_time {words} {a = a} single enough =
            let e : coded (distance_of a) ≡ time_word o s t = rw (
              meaning_injective _ _ single.result,
              time_kept o kept.named.shape s t (named_there o starts i hi kept.named.firsts)
                  (named_there o ends j hj kept.named.seconds) words enough,
            ) in
            rw e square_is

-- ---- demand 3 over a built oracle: the time and the hops of each square are the least pair over all walks from its start to its end, marked 'no walk'
-- exactly where there is none
module _ (f : Bytes) (dv : Division) (ok : accepted f dv ≡ true) {starts ends work work' : List ℕ} {r : Block}
    (call : BlockCall (oracle f dv) starts ends work r work') (given : r.rule ≡ 0) where
  below : (names : List ℕ) (i : ℕ) → i < length names → any (no_such_node (oracle f dv)) names ≡ false → get_or names i 0 < node_count (node_body f)
  below names i h e = rw (bodies_of f dv (good f dv (all_passed f dv ok)) 0 (omega arith)) at (named_there (oracle f dv) names i h e)

  pub square_least : (i j : ℕ) → i < length starts → j < length ends
      → IsLeastPair (PairWalk (timed_arcs (network f)) (get_or starts i 0) (get_or ends j 0)) (decoded (key (square r.times i j) (square r.hops i j)))
  unfolding time_word
  square_least i j hi hj =
      let (p, q) = square_is call given i hi j hj in
      rw (p, q, key_of_pair (time_word (oracle f dv) s t), time_exact f dv ok s t (rw (count_nodes f) hs) (rw (count_nodes f) ht), small)
      (distance_pair (network f) (sound.ends f whole) (sound.few f whole) (rw (count_nodes f) hs) t)
    where
      whole : Sound f
      whole = (all_passed f dv ok).sound

      s : ℕ
      s = get_or starts i 0

      t : ℕ
      t = get_or ends j 0

      hs : s < node_count (node_body f)
      hs = below starts i hi (kept call given).named.firsts

      ht : t < node_count (node_body f)
      ht = below ends j hj (kept call given).named.seconds

      small : decoded (coded (distance (network f) s t)) ≡ distance (network f) s t
      small = decoded_coded (distance (network f) s t) (near f whole s t (rw (count_nodes f) hs))
