-- What building hands back, and what it leaves, after a refusal and after none. Assumes nothing.
use Prim.Native.Nat.{ℕ, ◌≤◌, ◌<◌}
use native.Mathlib.Omega.{arith}
use mathlib.Core.Path.{◌≡◌, refl, sym, ap, ◌∙◌}
use mathlib.Core.Bool.{true}
use mathlib.Core.List.{List, [], ◌∷◌, ◌++◌, append_assoc}
use lib.ListN.{length}
use borrow.Author.Tests.{eq-eqb, ne_eqb, lt-ltb, le-ltb, ltb-false}
use Rattle.model.specs.Bytes.{Bytes, splice}
use Rattle.model.specs.Oracle.{oracle, transit_of}
use Rattle.model.specs.Rules.{rule, first_broken, network_rules, accept_rules, accepted, build_rules, work_too_small, words_needed, output_too_small}
use Rattle.model.specs.Calls.{clears, cleared, output_after, built_after, build_refusal, Build}
use Rattle.model.specs.declared.Built.{Built}
use Rattle.model.specs.declared.Division.{Division}
use Rattle.theory.specs.Firsts.{counted, split}
use Rattle.theory.specs.Splices.{splice_front}
use Rattle.theory.specs.Passed.{Passed, all_passed}
use Rattle.checks.proofs.AfterCall.{unclearing, words_kept, last_clears}
use Rattle.words.specs.Frames.{KeptFrom}
use Rattle.checks.proofs.CheckOrder.{sooner, last_left}
use Rattle.builder.specs.Given.{work_rules, room_rule, BuildGiven}

module _ (f : Bytes) (dv : Division) where
  -- ---- rules 1 to 8, and 14
  pub accept_counted : counted (accept_rules f dv) ≡ true
  unfolding counted accept_rules network_rules
  accept_counted = refl

  pub accept_passed : first_broken (accept_rules f dv) ≡ 0 → Passed f dv
  accept_passed e = all_passed f dv (unfold accepted in eq-eqb (first_broken (accept_rules f dv)) 0 e)

  module _ (words : ℕ) where
    pub work_kept : first_broken (work_rules f dv words) ≡ 0 → Passed f dv × (words_needed f ≤ words)
    unfolding work_rules work_too_small
    work_kept e =
        let p = split (accept_rules f dv) 14 (work_too_small f words) accept_counted (omega arith) e in
        (accept_passed p.0, ltb-false words (words_needed f) p.1)

    work_unwritten : unclearing (work_rules f dv words) ≡ true
    unfolding unclearing clears work_rules accept_rules network_rules
    work_unwritten = refl

    work_counted : counted (work_rules f dv words) ≡ true
    unfolding counted work_rules accept_rules network_rules
    work_counted = refl

    -- The rules of building are those, and 15.
    rules_are : (room : ℕ) → build_rules f dv words room ≡ work_rules f dv words ++ (rule 15 (output_too_small (length (oracle f dv)) room) ∷ [])
    unfolding build_rules work_rules
    rules_are room = sym (append_assoc (accept_rules f dv) (rule 14 (work_too_small f words) ∷ []) (rule 15 (output_too_small (length (oracle f dv)) room) ∷ []))

  -- ---- rule 15
  short : (room : ℕ) → room < length (oracle f dv) → room_rule f dv room ≡ 15
  unfolding room_rule output_too_small
  short room h = rw (lt-ltb room (length (oracle f dv)) h)

  enough : (room : ℕ) → length (oracle f dv) ≤ room → room_rule f dv room ≡ 0
  unfolding room_rule output_too_small
  enough room h = rw (le-ltb room (length (oracle f dv)) h)

  module _ (out : Bytes) where
    pub given_short : length out < length (oracle f dv) → BuildGiven f dv out (record { rule = 15; size = 0; transit = 0 }) out
    given_short h = record { result = rw (short (length out) h) (unfold built_after in refl); bytes = rw (short (length out) h) (unfold output_after in refl) }

    pub given_built : (size t : ℕ) (out' : Bytes) → size ≡ length (oracle f dv) → t ≡ length (transit_of f dv) → length (oracle f dv) ≤ length out
        → out' ≡ splice 0 (oracle f dv) out
        → BuildGiven f dv out (record { rule = 0; size = size; transit = t }) out'
    given_built size t out' s q h w = record {
      result = rw (enough (length out) h, s, q) (unfold built_after in refl);
      bytes = rw (enough (length out) h) (unfold output_after in w ∙ splice_front (oracle f dv) out);
    }

  -- ---- a rule before 15
  module _ (work : List ℕ) (out : Bytes) (r : ℕ) (e : r ≡ first_broken (work_rules f dv (length work))) where
    pub build_refused : (r ≡ 0 → ⊥) → Build f dv work out (record { rule = r; size = 0; transit = 0 }) work out
    build_refused h = record {
      result = rw same (unfold built_after in rw (ne_eqb r 0 h));
      words =
          rw same (words_kept (work_rules f dv (length work)) (work_unwritten (length work)) r e f work h);
      bytes = rw same (unfold output_after in rw (ne_eqb r 0 h));
    }
      where
        same : build_refusal f dv work out ≡ r
        same = unfold build_refusal in (ap first_broken (rules_are (length work) (length out)) ∙ sym (sooner (work_rules f dv (length work)) r e _ h))

    -- ---- none
    pub build_given : (work' mid : List ℕ) (built : Built) (out' : Bytes) → r ≡ 0 → BuildGiven f dv out built out' → KeptFrom (words_needed f) work mid
        → work' ≡ cleared (words_needed f) mid
        → Build f dv work out built work' out'
    build_given work' mid built out' z given d c = record {
      result = rw last given.result;
      words = rw last (c ∙ unfold room_rule in last_clears f work mid d 15 (unfold clears in refl) (output_too_small (length (oracle f dv)) (length out)));
      bytes = rw last given.bytes;
    }
      where
        last : build_refusal f dv work out ≡ room_rule f dv (length out)
        last =
            unfold build_refusal room_rule in
            (ap first_broken (rules_are (length work) (length out)) ∙ last_left (work_rules f dv (length work)) r e (work_counted (length work)) z 15 _)
