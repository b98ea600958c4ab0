-- What a check gives that goes on: a rule that is kept; what a file that keeps rules 1 to 7 has, and an oracle that keeps 21 as well. Assumes nothing.
use Prim.Native.Nat.{ℕ}
use mathlib.Core.Path.{◌≡◌, refl, sym, ◌∙◌, ap}
use Rattle.std.specs.Prelude.{Result, Ok, Err}
use mathlib.Core.Bool.{Bool, true, false, cond}
use Rattle.rules.specs.Refusals.{number_of, refused}
use Rattle.rules.specs.declared.refusal.Refusal.{Refusal}
use Rattle.rules.proofs.Refusals.{is_a_rule}
use mathlib.Core.List.{[]}
use Rattle.model.specs.Bytes.{Bytes}
use Rattle.model.specs.Contents.{oracle_edition, oracle_entries}
use Rattle.theory.specs.Passed.{Rest, network_passed, plain_passed}
use Rattle.model.specs.Rules.{first_broken, network_rules, plain_rules}

-- What a check found, of which n is the number or 0: no rule, or the rule whose number the call hands on.
pub none_broken : {n : ℕ} {found : Result Unit Refusal} {u : Unit} → refused found ≡ n → found ≡ Ok u → 0 ≡ n
unfolding refused
none_broken e is = sym (ap refused is) ∙ e

pub number_broken : {n rule : ℕ} {found : Result Unit Refusal} {broken : Refusal} → refused found ≡ n → found ≡ Err broken → rule ≡ number_of broken → rule ≡ n
unfolding refused
number_broken e is q = q ∙ (sym (ap refused is) ∙ e)

pub some_rule : {rule : ℕ} (broken : Refusal) → rule ≡ number_of broken → rule ≡ 0 → ⊥
some_rule broken q z = is_a_rule broken (sym q ∙ z)

-- A test whose rule was not found broken.
pub rule_kept : (r : Refusal) {b : Bool} → 0 ≡ cond b (number_of r) 0 → b ≡ false
rule_kept r {b = true} e = absurd (is_a_rule r (sym e))
rule_kept r {b = false} e = refl

pub kept_to_7 : (edition entries : ℕ) (f : Bytes) → first_broken (network_rules edition entries f) ≡ 0 → Rest edition entries f []
unfolding network_rules
kept_to_7 edition entries f e = network_passed edition entries f [] e

pub kept : (o : Bytes) → first_broken (plain_rules oracle_edition oracle_entries o) ≡ 0 → Rest oracle_edition oracle_entries o []
unfolding network_rules
kept o e = (plain_passed oracle_edition oracle_entries o [] e).0
