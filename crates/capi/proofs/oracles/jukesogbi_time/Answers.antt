-- `oracles::jukesogbi_time` meets its contract.
use mathlib.Core.Path.{◌∙◌, ap}
use Rattle.model.proofs.Meanings.{meaning_injective}
use Rattle.capi.specs.Replies.{reply}
use Rattle.capi.proofs.oracles.jukesogbi_time.Goals as goal

pub returns : goal.returns
returns c = record { result = c.from.ensures ∙ ap reply (meaning_injective _ _ c.time.ensures.result); words = c.time.ensures.words }
