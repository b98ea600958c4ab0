-- What a call that writes output hands back and leaves, after a refusal and after none. Assumes nothing.
use Prim.Native.Nat.{ℕ, ◌≤◌, ◌<◌}
use mathlib.Core.Path.{◌≡◌, refl, sym, ◌∙◌}
use mathlib.Core.Bool.{true}
use mathlib.Core.List.{List, [], ◌∷◌, ◌++◌}
use lib.ListN.{length, drop}
use borrow.Author.Tests.{ne_eqb, lt-ltb, le-ltb}
use Rattle.model.specs.Bytes.{Bytes}
use Rattle.model.specs.Rules.{Rule, rule, first_broken, output_too_small, words_needed}
use Rattle.model.specs.Calls.{clears, cleared, work_after, output_after, route_after, size_after}
use Rattle.theory.specs.Firsts.{counted}
use Rattle.checks.proofs.AfterCall.{unclearing, words_kept, last_clears}
use Rattle.checks.proofs.CheckOrder.{sooner, last_left}
use Rattle.words.specs.Frames.{KeptFrom}
use Rattle.opened.specs.Room.{room_rule, Given}

-- ---- a zero beside a number
pub route_refused : (k : ℕ) (nodes : List ℕ) → (k ≡ 0 → ⊥) → record { rule = k; nodes = 0 } ≡ route_after k nodes
unfolding route_after
route_refused k nodes h = rw (ne_eqb k 0 h)

pub size_refused : (k : ℕ) (written : Bytes) → (k ≡ 0 → ⊥) → record { rule = k; size = 0 } ≡ size_after k written
unfolding size_after
size_refused k written h = rw (ne_eqb k 0 h)

-- `after` is what is handed back beside a number, and `written`, of this size, is the result.
module _ {A : Type 0} (after : ℕ → A) (size : ℕ) (written : Bytes) where
  -- ---- rule 15
  module _ (out : Bytes) where
    pub given_short : length out < size → {r : A} → r ≡ after 15 → Given after size written out r out
    given_short h e = record { result = rw broken e; bytes = rw broken (unfold output_after in refl) }
      where
        broken : room_rule size (length out) ≡ 15
        broken = unfold room_rule output_too_small in rw (lt-ltb (length out) size h)

    pub given_whole : size ≤ length out → {r : A} {out' : Bytes} → r ≡ after 0 → out' ≡ written ++ drop (length written) out
        → Given after size written out r out'
    given_whole h e q = record { result = rw kept e; bytes = rw kept (unfold output_after in q) }
      where
        kept : room_rule size (length out) ≡ 0
        kept = unfold room_rule output_too_small in rw (le-ltb (length out) size h)

  -- ---- the whole call: what the number of the broken rule, or 0, makes of it
  pub record CallGiven (refusal : ℕ) (o : Bytes) (work : List ℕ) (out : Bytes) (r : A) (work' : List ℕ) (out' : Bytes) : Type 0 where
    pub result : r ≡ after refusal
    pub words : work' ≡ work_after refusal o work
    pub bytes : out' ≡ output_after refusal written out

  -- The rules before 15, of which k is the first that is broken; none of them zeroes the words.
  module _ (rs : List Rule) (unwritten : unclearing rs ≡ true) (numbered : counted rs ≡ true) (k : ℕ) (e : k ≡ first_broken rs)
      (o : Bytes) (work : List ℕ) (out : Bytes) where
    abbrev all : ℕ
    all = first_broken (rs ++ (rule 15 (output_too_small size (length out)) ∷ []))

    pub call_refused : (k ≡ 0 → ⊥) → {r : A} → r ≡ after k → CallGiven all o work out r work out
    call_refused h q = record {
      result = rw same q;
      words = rw same (words_kept rs unwritten k e o work h);
      bytes = rw same (unfold output_after in rw (ne_eqb k 0 h));
    }
      where
        same : all ≡ k
        same = sym (sooner rs k e _ h)

    pub call_given : k ≡ 0 → (work' mid : List ℕ) (r : A) (out' : Bytes) → Given after size written out r out'
        → KeptFrom (words_needed o) work mid → work' ≡ cleared (words_needed o) mid → CallGiven all o work out r work' out'
    call_given z work' mid r out' g d c = record {
      result = rw last g.result;
      words = rw last (c ∙ unfold room_rule in last_clears o work mid d 15 (unfold clears in refl) (output_too_small size (length out)));
      bytes = rw last g.bytes;
    }
      where
        last : all ≡ room_rule size (length out)
        last = unfold room_rule in last_left rs k e numbered z 15 _
