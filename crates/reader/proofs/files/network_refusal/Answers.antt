-- `files::network_refusal` meets its contract.
use Rattle.theory.specs.Joined.{whole_contents}
use native.Mathlib.Omega.{arith}
use mathlib.Core.Path.{sym, ◌∙◌}
use Rattle.std.proofs.lemmas.Grind.{common_steps}
use Rattle.model.specs.Rules.{first_broken, network_rules}
use Rattle.rules.specs.Refusals.{refused, number_of}
use Rattle.rules.proofs.Refusals.{is_a_rule}
use Rattle.rules.specs.declared.refusal.Refusal.TheVariants.{Contents}
use Rattle.reader.proofs.Kept.{rule_kept}
use Rattle.reader.proofs.files.network_refusal.Goals as goal

pub read-c-requires : goal.read-c-requires
unfolding refused
read-c-requires c =
    let a = c.args in
    (omega arith, whole_contents a.edition a.entries a.f.now (sym c.contents_broken.ensures ∙ rule_kept Contents c.in_ok-broken_if.ensures))

pub returns : goal.returns
unfolding refused number_of first_broken network_rules
returns c = grind (arith, common_steps, is_a_rule)
