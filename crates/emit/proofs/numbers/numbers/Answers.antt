-- `emit::numbers::numbers` meets its contract. Assumes nothing.
use mathlib.Core.Path.{sym, ◌∙◌}
use Rattle.emit.proofs.Turns.{members_all, member_in, member_out, members_end}
use Rattle.emit.proofs.Taking.{taking_start, taking_same, taking_fits, taking_next, taking_stop, taking_end}
use Rattle.emit.specs.Parts.{numbers_bytes}
use Rattle.emit.proofs.numbers.numbers.Goals.{else-contains-via-then-contains+else-not-take, else-contains-via-else-contains}
use Rattle.emit.proofs.numbers.numbers.Goals as goal

pub loop-v-init : goal.loop-v-init
unfolding numbers_bytes
loop-v-init g c = taking_start g.met.S.Sink.laws (members_all _ _ _) c.requires.2

pub take-requires : goal.take-requires
take-requires g c =
    let i = sym c.contains.ensures ∙ c.if-contains.true in
    taking_fits g.met.S.Sink.laws (member_in _ _ _ _ c.loop-v-test.true i) c.loop-v.invariant c.number_bytes.ensures

pub returns-then-not-take : goal.returns-then-not-take
returns-then-not-take g c =
    let i = sym c.contains.ensures ∙ c.if-contains.true in
    taking_stop g.met.S.Sink.laws (member_in _ _ _ _ c.loop-v-test.true i) c.loop-v.invariant c.number_bytes.ensures c.if-not-take.true c.take.ensures

pub loop-v-preserved : goal.loop-v-preserved
loop-v-preserved g c =
    elim c.else-contains.branch [
      | else-contains-via-then-contains+else-not-take w ↦
          let i = sym c.contains.ensures ∙ w.if-contains.true in
          rw w.to-is (taking_next g.met.S.Sink.laws (member_in _ _ _ _ c.loop-v-test.true i) c.loop-v.invariant w.number_bytes.ensures w.if-not-take.false w.take.ensures)
      | else-contains-via-else-contains w ↦
          let i = sym c.contains.ensures ∙ w.if-contains.false in
          rw w.to-is (taking_same g.met.S.Sink.laws (member_out _ _ _ _ c.loop-v-test.true i) c.loop-v.invariant)
    ]

pub returns : goal.returns
returns g c = taking_end g.met.S.Sink.laws (members_end _ _ _ _ c.loop-v-test.false) c.loop-v.invariant
