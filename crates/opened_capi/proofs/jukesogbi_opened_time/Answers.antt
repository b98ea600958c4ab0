-- `jukesogbi_opened_time` meets its contract: the answer as a reply.
use mathlib.Core.Path.{◌∙◌, ap}
use Rattle.capi.specs.Replies.{reply}
use Rattle.opened_capi.proofs.jukesogbi_opened_time.Goals as goal

pub returns : goal.returns
returns c = record { result = c.from.ensures ∙ ap reply c.time.ensures.result; opened = c.time.ensures.opened; rest = c.time.ensures.rest }
