-- What the call and the question hand back and leave, after a refusal and after none. Assumes nothing.
use Prim.Native.Nat.{ℕ, ◌+◌, ◌*◌, ◌≤◌, ◌<◌}
use native.Mathlib.Omega.{arith}
use mathlib.Core.Path.{◌≡◌, refl, sym, ◌∙◌, ap}
use mathlib.Core.Bool.{true}
use mathlib.Core.List.{List}
use lib.ListN.{length}
use borrow.Author.Tests.{le-ltb}
use Rattle.model.specs.Bytes.{Bytes, splice}
use Rattle.model.specs.Rules.{first_broken, network_rules, shape_rules, work_too_small, words_needed}
use Rattle.model.specs.Calls.{clears, cleared, size_after}
use Rattle.model.specs.declared.Output.{Output}
use Rattle.theory.specs.Splices.{splice_front}
use Rattle.checks.specs.RuleLists.{named_rules}
use Rattle.checks.proofs.AfterCall.{unclearing}
use Rattle.checks.proofs.CheckOrder.{last_kept}
use Rattle.words.specs.Frames.{KeptFrom}
use Rattle.opened.specs.Opened.{Opened}
use Rattle.opened.proofs.Outputs.{size_refused, given_short, given_whole, call_refused, call_given}
use Rattle.wages.specs.Wages.{leg_count, wages_bytes, legs_rules, open_rules, wages_rules, wages_refusal, WagesCall}
use Rattle.wages.specs.Kept.{open_counted}
use Rattle.wages.specs.Sizes.{length_wages}
use Rattle.wages.specs.Tallies.{time_size, tally_size, WagesGiven}

-- ---- rule 15; `size` is the size as the code has it
module _ (o b : Bytes) (size : ℕ) (e : size ≡ time_size * leg_count b + tally_size) (out : Bytes) where
  same : size ≡ length (wages_bytes o b)
  same = e ∙ sym (length_wages o b)

  pub wages_short : length out < size → WagesGiven o b out (record { rule = 15; size = 0 }) out
  wages_short h = given_short (λ k. size_after k (wages_bytes o b)) (length (wages_bytes o b)) (wages_bytes o b) out (omega (arith, same))
      (size_refused 15 (wages_bytes o b) (λ z. omega arith))

  pub wages_whole : size ≤ length out → {out' : Bytes} → out' ≡ splice 0 (wages_bytes o b) out → WagesGiven o b out (record { rule = 0; size = size }) out'
  wages_whole h q = given_whole (λ k. size_after k (wages_bytes o b)) (length (wages_bytes o b)) (wages_bytes o b) out (omega (arith, same))
      (unfold size_after in ap (λ (n : ℕ). record { rule = 0; size = n }) same) (q ∙ splice_front (wages_bytes o b) out)

-- ---- the whole call; `k` is the first of the rules before 15 that is broken
module _ (o b : Bytes) (work : List ℕ) (k : ℕ) (e : k ≡ first_broken (open_rules o b (length work))) (out : Bytes) where
  unwritten : unclearing (open_rules o b (length work)) ≡ true
  unfolding unclearing clears open_rules legs_rules named_rules shape_rules network_rules
  unwritten = refl

  pub wages_refused : (k ≡ 0 → ⊥) → WagesCall o b work out (record { rule = k; size = 0 }) work out
  unfolding wages_refusal wages_rules
  wages_refused h =
      let r = call_refused (λ k. size_after k (wages_bytes o b)) (length (wages_bytes o b)) (wages_bytes o b) (open_rules o b (length work)) unwritten
      (open_counted o b (length work)) k e o work out h (size_refused k (wages_bytes o b) h) in
      record { result = r.result; words = r.words; bytes = r.bytes }

  pub wages_given : k ≡ 0 → (work' mid : List ℕ) (r : Output) (out' : Bytes) → WagesGiven o b out r out'
      → KeptFrom (words_needed o) work mid → work' ≡ cleared (words_needed o) mid → WagesCall o b work out r work' out'
  unfolding wages_refusal wages_rules
  wages_given z work' mid r out' g d c =
      let w = call_given (λ k. size_after k (wages_bytes o b)) (length (wages_bytes o b)) (wages_bytes o b) (open_rules o b (length work)) unwritten
      (open_counted o b (length work)) k e o work out z work' mid r out' g d c in
      record { result = w.result; words = w.words; bytes = w.bytes }

-- Over an opened oracle the rules before 15 are those of the legs.
pub as_open : (o b : Bytes) (work : List ℕ) → Opened o work → (k : ℕ) → k ≡ first_broken (legs_rules o b) → k ≡ first_broken (open_rules o b (length work))
unfolding open_rules work_too_small
as_open o b work h k e = e ∙ sym (last_kept (legs_rules o b) 14 (le-ltb (length work) (words_needed o) h.room))
