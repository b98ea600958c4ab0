-- What document 02 promises of the wages sheet (T-04, T-07), over the calls: each statement is about any outcome that keeps the calls' contracts.
-- `WagesCall o b` is the contract of `wages` over the oracle o and the legs' bytes b, `TimeCall` that of `time`. The words used here are defined in
-- `Wages`, in `model` and in `demands`, Outcomes; the proofs are in `WagesLaws`. What is promised of the times, the number and the total, and that a call
-- succeeds, stands in `WagesTimes`, in proofs/. Assumes nothing.
use Rattle.std.specs.Prelude.{ℕ, ◌+◌, ◌*◌, ◌≤◌, ◌<◌, ◌≡◌, ◌⊎◌, ◌↔◌, refl, true, List, [], ◌∷◌, ◌++◌, map, length, take, drop, replicate}
use Rattle.model.specs.Lists.{any}
use Rattle.model.specs.Bytes.{Bytes}
use Rattle.model.specs.Contents.{node_body}
use Rattle.model.specs.Network.{node_count}
use Rattle.model.specs.Rules.{rule, network_rules, shape_rules, no_such_node, words_needed, work_too_small, output_too_small}
use Rattle.model.specs.Calls.{cleared}
use Rattle.model.specs.declared.Output.{Output}
use Rattle.demands.specs.Outcomes.{Refuses}
use Rattle.checks.specs.RuleLists.{named_rules}
use Rattle.wages.specs.Wages.{leg, leg_count, leg_nodes, legs_broken, legs_rules, open_rules, wages_bytes, wages_rules, WagesCall}
use Rattle.wages.specs.WagesLaws as laws

-- ==== The rules, of any bytes

-- "Meets 17 in its place": directly after 12. What 15 asks for is known from the legs alone: 4 bytes for each, and 12.
pub wages_rules_law : (o b : Bytes) (words room : ℕ) → wages_rules o b words room ≡ shape_rules o ++
    (rule 12 (any (no_such_node o) (leg_nodes b)) ∷
    rule 17 (legs_broken b) ∷
    rule 14 (work_too_small o words) ∷
    rule 15 (output_too_small (4 * leg_count b + 12) room) ∷ [])
unfolding wages_rules open_rules legs_rules named_rules shape_rules network_rules
wages_rules_law o b words room = rw (laws.size_known o b)

pub wages_order : (o b : Bytes) (words room : ℕ) → map (λ r. r.number) (wages_rules o b words room)
    ≡ 1 ∷ 2 ∷ 3 ∷ 4 ∷ 5 ∷ 6 ∷ 7 ∷ 21 ∷ 8 ∷ 9 ∷ 10 ∷ 11 ∷ 12 ∷ 17 ∷ 14 ∷ 15 ∷ []
unfolding wages_rules open_rules legs_rules named_rules shape_rules network_rules
wages_order o b words room = refl

-- "12 looks at whole legs only": it is broken just where a whole leg has an end that is no node.
pub twelve_just : (o b : Bytes) → (any (no_such_node o) (leg_nodes b) ≡ true) ↔
    ((i : ℕ) × (i < leg_count b) × ((node_count (node_body o) ≤ (leg b i).start) ⊎ (node_count (node_body o) ≤ (leg b i).end)))
twelve_just = laws.twelve_just

-- "Over 1,000 legs, or a part of a leg, meets 17": 1 to 3 bytes are left behind the whole legs, of 4 bytes each.
pub seventeen_just : (b : Bytes) → (legs_broken b ≡ true) ↔ ((1000 < leg_count b) ⊎ ((p : ℕ) × (0 < p) × (p < 4) × (length b ≡ 4 * leg_count b + p)))
seventeen_just = laws.seventeen_just

-- "A 32-bit time for each .., then the 32-bit number of legs so marked and the 64-bit total of the others", whatever the oracle holds.
pub size_known : (o b : Bytes) → length (wages_bytes o b) ≡ 4 * leg_count b + 12
size_known = laws.size_known

-- ==== The call
module _ {o b : Bytes} {work work' : List ℕ} {out out' : Bytes} {r : Output} (call : WagesCall o b work out r work' out') where
  -- It hands back the number of the first rule broken, with a size of 0, and writes nothing (15 zeroes the working words), for every input.
  pub wages_refuses : Refuses (wages_rules o b (length work) (length out)) r.rule o work work' out out'
  wages_refuses = laws.wages_refuses call

  pub refused_zero : (r.rule ≡ 0 → ⊥) → r.size ≡ 0
  refused_zero = laws.refused_zero call

  -- ==== Where nothing is refused
  module _ (given : r.rule ≡ 0) where
    -- "A call that writes output hands back its length in bytes."
    pub size_is : r.size ≡ 4 * leg_count b + 12
    size_is = laws.size_is call given

    -- "Success zeroes those words .. and touches nothing past either."
    pub words_zeroed : work' ≡ cleared (words_needed o) work
    words_zeroed = laws.words_zeroed call given

    pub nothing_past : drop r.size out' ≡ drop r.size out
    nothing_past = laws.nothing_past call given

    -- No legs at all give twelve zeros.
    pub no_legs : b ≡ [] → (take 12 out' ≡ replicate 12 0) × (r.size ≡ 12)
    no_legs = laws.no_legs call given
