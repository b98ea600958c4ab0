-- `oracles::jukesogbi_far` meets its contract.
use mathlib.Core.Path.{◌∙◌, ap}
use Rattle.model.proofs.Meanings.{meaning_injective}
use Rattle.capi.specs.Replies.{reply}
use Rattle.capi.proofs.oracles.jukesogbi_far.Goals as goal

pub returns : goal.returns
returns c = c.from.ensures ∙ ap reply (meaning_injective _ _ c.far.ensures.result)
