-- `halves::changed` meets its contract: the other half stays.
use Rattle.words.proofs.HalfLaws.{changed_low, changed_high}
use Rattle.words.proofs.halves.changed.Goals as goal

pub returns-then-p-eq0 : goal.returns-then-p-eq0
returns-then-p-eq0 c = changed_low c.args.p c.args.x c.args.y c.if-p-eq0.true

pub returns : goal.returns
returns c = changed_high c.args.p c.args.x c.args.y c.if-p-eq0.false
