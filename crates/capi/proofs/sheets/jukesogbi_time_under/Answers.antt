-- `sheets::jukesogbi_time_under` meets its contract.
use mathlib.Core.Path.{◌∙◌, ap}
use Rattle.model.proofs.Meanings.{meaning_injective}
use Rattle.capi.specs.Replies.{reply}
use Rattle.capi.proofs.sheets.jukesogbi_time_under.Goals as goal

pub returns : goal.returns
returns c = record { result = c.from.ensures ∙ ap reply (meaning_injective _ _ c.time_under.ensures.result); words = c.time_under.ensures.words }
