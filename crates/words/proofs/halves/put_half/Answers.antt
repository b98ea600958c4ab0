-- `halves::put_half` meets its contract.
use Rattle.words.proofs.HalfLaws.{put_is}
use Rattle.words.proofs.halves.put_half.Goals as goal

pub returns : goal.returns
returns c = put_is _ c.args.p c.args.y _ c.changed.ensures
