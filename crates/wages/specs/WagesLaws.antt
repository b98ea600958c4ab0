-- The proofs of what `WagesDemands` states. Those of what `WagesTimes` states are in `TimesLaws`. Assumes nothing.
use Rattle.std.specs.Prelude.{ℕ, ◌+◌, ◌*◌, ◌/◌, ◌%◌, ◌≤◌, ◌<◌, ◌≡◌, ◌⊎◌, ◌↔◌, Bool, false, not, ◌||◌, length, take, drop, eqb, ltb, leb}
use native.Mathlib.Omega.{arith}
use Rattle.std.proofs.Math.Path.{refl, sym, ap}
use Rattle.std.proofs.Common.{◌∙◌, leb-true, le-leb, ltb-true, lt-ltb, ne_eqb}
use Rattle.std.proofs.Math.Logic.{inl, inr, ⊎_elim}
use Rattle.std.proofs.Math.Bool.{true, or-true}
use mathlib.Core.List.{List, [], ◌∷◌, ◌++◌, map}
use Rattle.std.proofs.Math.ListN.{replicate}
use Rattle.std.proofs.lemmas.Bool.{eqb-false, not-true}
use Rattle.model.specs.Lists.{any, up_to, filter, concat_map, total, range}
use Rattle.model.specs.Bytes.{Bytes, bytes16, bytes32, bytes64}
use Rattle.model.specs.Contents.{node_body}
use Rattle.model.specs.Network.{node_count}
use Rattle.model.specs.Rules.{rule, network_rules, shape_rules, no_such_node, words_needed, work_too_small, output_too_small}
use Rattle.model.specs.Calls.{cleared, output_after, size_after}
use Rattle.model.specs.declared.Output.{Output}
use Rattle.theory.specs.Members.{any→, →any, map→, →map, range→, →up_to}
use Rattle.demands.specs.Outcomes.{Refuses}
use Rattle.demands.proofs.CallLaws as laws
use Rattle.checks.specs.RuleLists.{named_rules}
use Rattle.wages.specs.Wages.{max_legs, leg, leg_count, legs, leg_nodes, legs_broken, legs_rules, open_rules, leg_times, marked, total_of}
use Rattle.wages.specs.Wages.{times_bytes, wages_bytes, wages_rules, wages_refusal, WagesCall}
use Rattle.wages.specs.Kept.{some_end, leg_by_leg}
use Rattle.wages.specs.Sizes.{length_wages}

-- ---- the rules
pub wages_order : (o b : Bytes) (words room : ℕ) → map (λ r. r.number) (wages_rules o b words room)
    ≡ 1 ∷ 2 ∷ 3 ∷ 4 ∷ 5 ∷ 6 ∷ 7 ∷ 21 ∷ 8 ∷ 9 ∷ 10 ∷ 11 ∷ 12 ∷ 17 ∷ 14 ∷ 15 ∷ []
unfolding wages_rules open_rules legs_rules named_rules shape_rules network_rules
wages_order o b words room = refl

or_cases : (a c : Bool) → a || c ≡ true → (a ≡ true) ⊎ (c ≡ true)
or_cases true c h = inl refl
or_cases false c h = inr h

module _ (o b : Bytes) where
  abbrev N : ℕ
  N = node_count (node_body o)

  -- Leg i has an end that is no node.
  abbrev Missing : ℕ → Type 0
  Missing i = (N ≤ (leg b i).start) ⊎ (N ≤ (leg b i).end)

  missing : (i : ℕ) → (some_end (no_such_node o) (leg b i) ≡ true) ↔ Missing i
  unfolding no_such_node
  missing i = (
    λ h. ⊎_elim (λ e. inl (leb-true N (leg b i).start e)) (λ e. inr (leb-true N (leg b i).end e)) (or_cases _ _ h),
    λ h. ⊎_elim (λ l. rw (le-leb N (leg b i).start l)) (λ l. rw (le-leb N (leg b i).end l) (or-true (leb N (leg b i).start))) h,
  )

  pub twelve_just : (any (no_such_node o) (leg_nodes b) ≡ true) ↔ ((i : ℕ) × (i < leg_count b) × Missing i)
  unfolding legs
  twelve_just = rw (leg_by_leg (no_such_node o) b) (to, back)
    where
      to : any (some_end (no_such_node o)) (legs b) ≡ true → (i : ℕ) × (i < leg_count b) × Missing i
      to h =
          let (l, m, e) = any→ (some_end (no_such_node o)) (legs b) h in
          let (i, k, q) = map→ (leg b) (up_to (leg_count b)) m in
          (i, omega (arith, (range→ 0 (leg_count b) i k).1), (missing i).0 (rw q at e))

      back : (i : ℕ) × (i < leg_count b) × Missing i → any (some_end (no_such_node o)) (legs b) ≡ true
      back (i, k, h) = →any (some_end (no_such_node o)) (legs b) (→map (leg b) (up_to (leg_count b)) (→up_to (leg_count b) i k)) ((missing i).1 h)

pub seventeen_just : (b : Bytes) → (legs_broken b ≡ true) ↔ ((1000 < leg_count b) ⊎ ((p : ℕ) × (0 < p) × (p < 4) × (length b ≡ 4 * leg_count b + p)))
unfolding legs_broken leg_count
seventeen_just b = (λ h. ⊎_elim (λ e. inl (ltb-true max_legs (length b / 4) e)) (λ e. inr (part e)) (or_cases _ _ h), back)
  where
    part : not (eqb (length b % 4) 0) ≡ true → (p : ℕ) × (0 < p) × (p < 4) × (length b ≡ 4 * (length b / 4) + p)
    part e = let d : length b % 4 ≡ 0 → ⊥ = eqb-false (length b % 4) 0 (not-true _ e) in (length b % 4, omega arith, omega arith, omega arith)

    back : (1000 < length b / 4) ⊎ ((p : ℕ) × (0 < p) × (p < 4) × (length b ≡ 4 * (length b / 4) + p))
        → ltb max_legs (length b / 4) || not (eqb (length b % 4) 0) ≡ true
    back (inl l) = rw (lt-ltb max_legs (length b / 4) l)
    back (inr (p, z, l, e)) = rw (ne_eqb (length b % 4) 0 (λ q. omega arith)) (or-true (ltb max_legs (length b / 4)))

-- ---- the size
pub size_known : (o b : Bytes) → length (wages_bytes o b) ≡ 4 * leg_count b + 12
size_known = length_wages

pub wages_rules_law : (o b : Bytes) (words room : ℕ) → wages_rules o b words room ≡ shape_rules o ++
    (rule 12 (any (no_such_node o) (leg_nodes b)) ∷
    rule 17 (legs_broken b) ∷
    rule 14 (work_too_small o words) ∷
    rule 15 (output_too_small (4 * leg_count b + 12) room) ∷ [])
unfolding wages_rules open_rules legs_rules named_rules shape_rules network_rules
wages_rules_law o b words room = rw (size_known o b)

-- ---- any outcome of the call
size_rule : (k : ℕ) (bytes : Bytes) → (size_after k bytes).rule ≡ k
unfolding size_after
size_rule k bytes = laws.after k (λ (r : Output). r.rule) (record { rule = 0; size = length bytes }) (record { rule = k; size = 0 }) refl refl

module _ {o b : Bytes} {work work' : List ℕ} {out out' : Bytes} {r : Output} (call : WagesCall o b work out r work' out') where
  pub number : r.rule ≡ wages_refusal o b work out
  number = ap (λ (x : Output). x.rule) call.result ∙ size_rule (wages_refusal o b work out) (wages_bytes o b)

  pub wages_refuses : Refuses (wages_rules o b (length work) (length out)) r.rule o work work' out out'
  unfolding wages_refusal
  wages_refuses = rw (number, call.words, call.bytes) (laws.refuses (wages_rules o b (length work) (length out)) o work (wages_bytes o b) out)

  pub refused_zero : (r.rule ≡ 0 → ⊥) → r.size ≡ 0
  unfolding size_after
  refused_zero h = ap (λ (x : Output). x.size) call.result ∙ rw (ne_eqb (wages_refusal o b work out) 0 (λ e. h (number ∙ e)))

  -- ---- where nothing is refused
  module _ (given : r.rule ≡ 0) where
    pub none : wages_refusal o b work out ≡ 0
    none = sym number ∙ given

    pub size_is : r.size ≡ 4 * leg_count b + 12
    unfolding size_after
    size_is = ap (λ (x : Output). x.size) call.result ∙ rw none (size_known o b)

    pub words_zeroed : work' ≡ cleared (words_needed o) work
    words_zeroed = call.words ∙ rw none (laws.words_done o work)

    pub after : out' ≡ output_after 0 (wages_bytes o b) out
    after = call.bytes ∙ rw none

    size_bytes : r.size ≡ length (wages_bytes o b)
    size_bytes = size_is ∙ sym (size_known o b)

    pub nothing_past : drop r.size out' ≡ drop r.size out
    nothing_past = rw (size_bytes, after) (laws.rest_done (wages_bytes o b) out)

    pub no_legs : b ≡ [] → (take 12 out' ≡ replicate 12 0) × (r.size ≡ 12)
    no_legs e = (front, size_is ∙ (unfold leg_count in rw e))
      where
        zeros : wages_bytes o [] ≡ replicate 12 0
        zeros = unfold wages_bytes times_bytes leg_times legs leg_count marked total_of range filter concat_map total bytes64 bytes32 bytes16 in refl

        front : take 12 out' ≡ replicate 12 0
        front = rw (after, e, zeros) (unfold output_after in refl)
