-- `jukesogbi_opened_far` meets its contract: the answer as a reply.
use mathlib.Core.Path.{◌∙◌, ap}
use Rattle.capi.specs.Replies.{reply}
use Rattle.opened_capi.proofs.jukesogbi_opened_far.Goals as goal

pub returns : goal.returns
returns c = c.from.ensures ∙ ap reply c.far.ensures
