-- `emit::rows::row` meets its contract. The loop's invariant: the times of the members from v on are left. Assumes nothing.
use Rattle.emit.proofs.Turns.{members_from}
use Rattle.emit.proofs.Taking.{Taking}
use Rattle.emit.specs.Parts.{time_bytes, row_bytes}
use Rattle.bitset.specs.Members.{members_of}
use Rattle.words.specs.Regions.{times_in}
use Rattle.emit.proofs.rows.row.Given as goal

abbrev pub invariant-loop-v : goal.invariant-loop-v
invariant-loop-v g l = Taking g.S.Sink.fits g.S.Sink.took l.initial.to (row_bytes (times_in l.n l.work) (members_of l.n l.set)) l.to
    (members_from (time_bytes (times_in l.n l.work)) l.set l.n l.v)
