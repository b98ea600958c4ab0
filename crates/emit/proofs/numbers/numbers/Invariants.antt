-- `emit::numbers::numbers` meets its contract. The loop's invariant: the members from v on are left. Assumes nothing.
use Rattle.emit.proofs.Turns.{members_from}
use Rattle.emit.proofs.Taking.{Taking}
use Rattle.emit.specs.Parts.{numbers_bytes}
use Rattle.bitset.specs.Members.{members_of}
use Rattle.model.specs.Bytes.{bytes16}
use Rattle.emit.proofs.numbers.numbers.Given as goal

abbrev pub invariant-loop-v : goal.invariant-loop-v
invariant-loop-v g l = Taking g.S.Sink.fits g.S.Sink.took l.initial.to (numbers_bytes (members_of l.n l.set)) l.to (members_from bytes16 l.set l.n l.v)
