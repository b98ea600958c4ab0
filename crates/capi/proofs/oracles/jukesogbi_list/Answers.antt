-- `oracles::jukesogbi_list` meets its contract.
use mathlib.Core.Path.{sym, ◌∙◌}
use Rattle.model.specs.Calls.{list_refusal}
use Rattle.checks.proofs.RulesKept.{list_kept}
use Rattle.capi.proofs.Spans.{nowhere, given}
use Rattle.capi.proofs.oracles.jukesogbi_list.Goals as goal

pub returns-then-list_rule-ne0 : goal.returns-then-list_rule-ne0
returns-then-list_rule-ne0 c = nowhere _ _ _ (λ e. c.if-list_rule-ne0.true (c.list_rule.ensures ∙ e))

pub list_span-requires : goal.list_span-requires
unfolding list_refusal
list_span-requires c =
    let k = list_kept _ _ (sym c.list_rule.ensures ∙ c.if-list_rule-ne0.false) in (k.shape, k.node)

pub returns : goal.returns
returns c = c.list_span.ensures ∙ given _ _ _ (sym c.list_rule.ensures ∙ c.if-list_rule-ne0.false)
