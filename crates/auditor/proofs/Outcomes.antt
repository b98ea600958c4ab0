-- What the audit hands back and leaves in the words. Assumes nothing.
use Prim.Native.Nat.{ℕ}
use mathlib.Core.Path.{◌≡◌, refl, sym, ◌∙◌, ap}
use mathlib.Core.Bool.{Bool, true, false, not, cond}
use mathlib.Core.List.{List, [], ◌∷◌, ◌++◌, append_assoc}
use lib.ListN.{length}
use Rattle.model.specs.Bytes.{Bytes}
use Rattle.model.specs.Contents.{node_body}
use Rattle.model.specs.Network.{node_count}
use Rattle.model.specs.Rules.{rule, first_broken, network_rules, shape_rules, audit_rules, words_needed, differs_from_built, work_words}
use Rattle.model.specs.Calls.{clears, cleared, audit_refusal, Audit}
use Rattle.theory.specs.Firsts.{counted}
use Rattle.checks.specs.RuleLists.{room_rules}
use Rattle.checks.proofs.AfterCall.{unclearing, words_kept, last_clears}
use Rattle.words.specs.Frames.{KeptFrom}
use Rattle.checks.proofs.CheckOrder.{sooner, last_left}

room_counted : (o : Bytes) (words : ℕ) → counted (room_rules o words) ≡ true
unfolding counted room_rules shape_rules network_rules
room_counted o words = refl

room_unwritten : (o : Bytes) (words : ℕ) → unclearing (room_rules o words) ≡ true
unfolding unclearing clears room_rules shape_rules network_rules
room_unwritten o words = refl

-- Rule 16 comes last.
with_last : (o : Bytes) (words : ℕ) → audit_rules o words ≡ room_rules o words ++ (rule 16 (differs_from_built o) ∷ [])
unfolding audit_rules room_rules
with_last o words = sym (append_assoc (shape_rules o) _ _)

module _ (o : Bytes) (work : List ℕ) (r : ℕ) (e : r ≡ first_broken (room_rules o (length work))) where
  pub audit_refused : (r ≡ 0 → ⊥) → Audit o work r work
  audit_refused h = record { result = sym same; words = rw same (words_kept (room_rules o (length work)) (room_unwritten o (length work)) r e o work h) }
    where
      same : audit_refusal o work ≡ r
      same = unfold audit_refusal in (ap first_broken (with_last o (length work)) ∙ sym (sooner (room_rules o (length work)) r e _ h))

  module _ (z : r ≡ 0) (same : Bool) (told : same ≡ not (differs_from_built o)) (mid work' : List ℕ) (rest : KeptFrom (words_needed o) work mid)
      (c : work' ≡ cleared (words_needed o) mid) where
    last : audit_refusal o work ≡ cond (differs_from_built o) 16 0
    unfolding audit_refusal
    last = ap first_broken (with_last o (length work)) ∙ last_left (room_rules o (length work)) r e (room_counted o (length work)) z 16 (differs_from_built o)

    twice : (b : Bool) → ◌≡◌ {A = ℕ} (cond (not (not b)) 16 0) (cond b 16 0)
    twice true = refl
    twice false = refl

    pub audit_told : (q : ℕ) → q ≡ cond (not same) 16 0 → Audit o work q work'
    audit_told q n = record {
      result = n ∙ (rw told (twice (differs_from_built o)) ∙ sym last);
      words = rw last
          (c ∙ last_clears o work mid rest 16 (unfold clears in refl) (differs_from_built o));
    }

-- Behind the words of N nodes.
pub behind_needed : (f : Bytes) (n : ℕ) → n ≡ node_count (node_body f) → (w w' : List ℕ) → KeptFrom (work_words n) w w' → KeptFrom (words_needed f) w w'
unfolding words_needed
behind_needed f n e w w' d = rw (← e) d
