-- `emit::rows::row` meets its contract. Assumes nothing.
use Prim.Native.Nat.{ℕ}
use mathlib.Core.Path.{◌≡◌, sym, ◌∙◌, ap}
use mathlib.Core.List.{List}
use lib.ListN.{get_or}
use Rattle.model.specs.Bytes.{Bytes}
use Rattle.model.specs.Oracle.{value_bytes, decoded}
use Rattle.emit.proofs.Turns.{members_all, member_in, member_out, members_end}
use Rattle.emit.proofs.Taking.{taking_start, taking_same, taking_fits, taking_next, taking_stop, taking_end}
use Rattle.emit.specs.Parts.{time_bytes, row_bytes}
use Rattle.emit.proofs.rows.row.Goals.{else-contains-via-then-contains+else-not-take, else-contains-via-else-contains}
use Rattle.emit.proofs.rows.row.Goals as goal

value_time : {bytes : Bytes} {x : ℕ} (times : List ℕ) (v : ℕ) → bytes ≡ value_bytes (decoded x) → x ≡ get_or times v 0 → bytes ≡ time_bytes times v
unfolding time_bytes
value_time times v e h = e ∙ ap (λ (y : ℕ). value_bytes (decoded y)) h

pub loop-v-init : goal.loop-v-init
unfolding row_bytes
loop-v-init g c = taking_start g.met.S.Sink.laws (members_all _ _ _) c.requires.2

pub take-requires : goal.take-requires
take-requires g c =
    let i = sym c.contains.ensures ∙ c.if-contains.true in
    taking_fits g.met.S.Sink.laws (member_in _ _ _ _ c.loop-v-test.true i) c.loop-v.invariant (value_time _ _ c.value_bytes.ensures c.time_of.ensures.1)

pub returns-then-not-take : goal.returns-then-not-take
returns-then-not-take g c =
    let i = sym c.contains.ensures ∙ c.if-contains.true in
    taking_stop g.met.S.Sink.laws (member_in _ _ _ _ c.loop-v-test.true i) c.loop-v.invariant (value_time _ _ c.value_bytes.ensures c.time_of.ensures.1) c.if-not-take.true c.take.ensures

pub loop-v-preserved : goal.loop-v-preserved
loop-v-preserved g c =
    elim c.else-contains.branch [
      | else-contains-via-then-contains+else-not-take w ↦
          let i = sym c.contains.ensures ∙ w.if-contains.true in
          rw w.to-is (taking_next g.met.S.Sink.laws (member_in _ _ _ _ c.loop-v-test.true i) c.loop-v.invariant (value_time _ _ w.value_bytes.ensures w.time_of.ensures.1) w.if-not-take.false w.take.ensures)
      | else-contains-via-else-contains w ↦
          let i = sym c.contains.ensures ∙ w.if-contains.false in
          rw w.to-is (taking_same g.met.S.Sink.laws (member_out _ _ _ _ c.loop-v-test.true i) c.loop-v.invariant)
    ]

pub returns : goal.returns
returns g c = taking_end g.met.S.Sink.laws (members_end _ _ _ _ c.loop-v-test.false) c.loop-v.invariant
