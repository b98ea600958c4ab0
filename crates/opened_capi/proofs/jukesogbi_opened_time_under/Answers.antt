-- `jukesogbi_opened_time_under` meets its contract: the answer as a reply.
use mathlib.Core.Path.{◌∙◌, ap}
use Rattle.capi.specs.Replies.{reply}
use Rattle.opened_capi.proofs.jukesogbi_opened_time_under.Goals as goal

pub returns : goal.returns
returns c = record { result = c.from.ensures ∙ ap reply c.time_under.ensures.result; stays = c.time_under.ensures.stays }
