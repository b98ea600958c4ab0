-- Laws of the calls' refusals, for the demands, and those of specs/CallLaws. Assumes nothing.
use Rattle.std.specs.Prelude.{ℕ, ◌≡◌, refl, ◌⊎◌, Bool, true, false, cond}
use Rattle.std.proofs.Common.{inl, inr}
use mathlib.Core.List.{List, [], ◌∷◌}
use borrow.Author.Tests.{ne_eqb}
use Rattle.model.specs.Bytes.{Bytes}
use Rattle.model.specs.Rules.{Rule, first_broken, words_needed}
use Rattle.model.specs.Calls.{clears, cleared, work_after, output_after}
use Rattle.demands.specs.Outcomes.{FirstOf, Refuses}
use Rattle.demands.specs.Outcomes as outcomes
pub use Rattle.demands.specs.CallLaws.{after, built_rule, route_rule, time_rule, far_rule, words_done, bytes_done, build_kept, build_accepted, front_done, rest_done}
pub use Rattle.demands.specs.CallLaws.{access_below, transit_member}

-- ---- the number of the first rule broken
pub first_of : (rs : List Rule) → FirstOf rs (first_broken rs)
unfolding first_broken
first_of [] = outcomes.none
first_of (r ∷ rs) = step r.broken refl (first_of rs)
  where
    step : (b : Bool) → r.broken ≡ b → FirstOf rs (first_broken rs) → FirstOf (r ∷ rs) (cond b r.number (first_broken rs))
    step true e f = outcomes.here e
    step false e f = outcomes.later e f

-- ---- the words and the output
words_kept : (k : ℕ) (f : Bytes) (work : List ℕ) → (k ≡ 0 → ⊥) → (k ≡ 15 → ⊥) → (k ≡ 16 → ⊥) → work_after k f work ≡ work
unfolding work_after clears
words_kept k f work a b c = rw (ne_eqb k 0 a, ne_eqb k 15 b, ne_eqb k 16 c)

words_cleared : (k : ℕ) (f : Bytes) (work : List ℕ) → (k ≡ 15) ⊎ (k ≡ 16) → work_after k f work ≡ cleared (words_needed f) work
unfolding work_after clears
words_cleared k f work (inl e) = rw e
words_cleared k f work (inr e) = rw e

bytes_kept : (k : ℕ) (result out : Bytes) → (k ≡ 0 → ⊥) → output_after k result out ≡ out
unfolding output_after
bytes_kept k result out a = rw (ne_eqb k 0 a)

pub refuses : (rules : List Rule) (f : Bytes) (work : List ℕ) (result out : Bytes)
    → Refuses rules (first_broken rules) f work (work_after (first_broken rules) f work) out (output_after (first_broken rules) result out)
refuses rules f work result out = record {
  first = first_of rules;
  words = words_kept (first_broken rules) f work;
  zeroed = words_cleared (first_broken rules) f work;
  bytes = bytes_kept (first_broken rules) result out;
}

-- The same of a call without output.
pub without_output : (rules : List Rule) (f : Bytes) (work : List ℕ) → Refuses rules (first_broken rules) f work (work_after (first_broken rules) f work) [] []
without_output rules f work = record {
  first = first_of rules;
  words = words_kept (first_broken rules) f work;
  zeroed = words_cleared (first_broken rules) f work;
  bytes = λ k. refl;
}
