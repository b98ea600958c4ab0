-- `emit::lists::list` meets its contract. Assumes nothing.
use Prim.Native.Nat.{ℕ}
use mathlib.Core.Path.{◌≡◌, refl, sym, ◌∙◌, ap}
use mathlib.Core.List.{List, ◌++◌}
use lib.ListN.{get_or}
use borrow.Author.Rules.{rules}
use Rattle.model.specs.Bytes.{Bytes, bytes16}
use Rattle.model.specs.Oracle.{value_bytes, decoded}
use Rattle.bitset.proofs.Ranks.{rank_none, rank_next}
use Rattle.emit.specs.Parts.{time_bytes, indexed_bytes}
use Rattle.emit.proofs.Indexes.{entry_for, list_count, entry_in, entry_out}
use Rattle.emit.proofs.Turns.{members_end}
use Rattle.emit.proofs.Taking.{taking_start, taking_same, taking_fits, taking_next, taking_stop, taking_end}
use Rattle.emit.proofs.lists.list.Goals.{else-contains-via-then-contains+else-not-take-2, else-contains-via-else-contains}
use Rattle.emit.proofs.lists.list.Goals as goal

indexed_time : {bytes : Bytes} {x : ℕ} (times : List ℕ) (index v : ℕ) → bytes ≡ bytes16 index ++ value_bytes (decoded x) → x ≡ get_or times v 0
    → bytes ≡ indexed_bytes times index v
unfolding indexed_bytes time_bytes
indexed_time times index v e h = e ∙ ap (λ (y : ℕ). bytes16 index ++ value_bytes (decoded y)) h

pub take-requires : goal.take-requires
take-requires g c =
    let a = c.args in
    taking_fits g.met.S.Sink.laws (list_count a.n a.access.now a.transit.now a.work.now _ c.count.ensures.0)
    (taking_start g.met.S.Sink.laws refl c.requires.fits) c.number_bytes.ensures

pub returns-then-not-take : goal.returns-then-not-take
returns-then-not-take g c =
    let a = c.args in
    taking_stop g.met.S.Sink.laws (list_count a.n a.access.now a.transit.now a.work.now _ c.count.ensures.0)
    (taking_start g.met.S.Sink.laws refl c.requires.fits) c.number_bytes.ensures c.if-not-take.true c.take.ensures

pub loop-v-init : goal.loop-v-init
loop-v-init g c =
    let a = c.args in (
      search rules,
      sym (rank_none _),
      taking_next g.met.S.Sink.laws (list_count a.n a.access.now a.transit.now a.work.now _ c.count.ensures.0)
          (taking_start g.met.S.Sink.laws refl c.requires.fits) c.number_bytes.ensures c.if-not-take.false c.take.ensures,
    )

pub take-requires-then-contains : goal.take-requires-then-contains
take-requires-then-contains g c =
    let a = c.args in
    let i = sym c.contains.ensures ∙ c.if-contains.true in
    let next = entry_in a.n a.access.now a.transit.now a.work.now _ _ c.loop-v-test.true c.requires.among c.loop-v.invariant.1 i in
    taking_fits g.met.S.Sink.laws next c.loop-v.invariant.2 (indexed_time _ _ _ c.indexed_bytes.ensures c.time_of.ensures.1)

pub returns-then-not-take-2 : goal.returns-then-not-take-2
returns-then-not-take-2 g c =
    let a = c.args in
    let i = sym c.contains.ensures ∙ c.if-contains.true in
    let next = entry_in a.n a.access.now a.transit.now a.work.now _ _ c.loop-v-test.true c.requires.among c.loop-v.invariant.1 i in
    taking_stop g.met.S.Sink.laws next c.loop-v.invariant.2 (indexed_time _ _ _ c.indexed_bytes.ensures c.time_of.ensures.1) c.if-not-take-2.true c.take-then-contains.ensures

pub loop-v-preserved : goal.loop-v-preserved
loop-v-preserved g c =
    let a = c.args in (
      search rules,
      rank_next _ _ _ _ c.loop-v.invariant.1 c.flag_of-rank.ensures.0,
      elim c.else-contains.branch [
        | else-contains-via-then-contains+else-not-take-2 w ↦
            let i = sym c.contains.ensures ∙ w.if-contains.true in
            let next = entry_in a.n a.access.now a.transit.now a.work.now _ _ c.loop-v-test.true c.requires.among c.loop-v.invariant.1 i in
            rw w.to-is (taking_next g.met.S.Sink.laws next c.loop-v.invariant.2 (indexed_time _ _ _ w.indexed_bytes.ensures w.time_of.ensures.1) w.if-not-take-2.false
            w.take-then-contains.ensures)
        | else-contains-via-else-contains w ↦
            let i = sym c.contains.ensures ∙ w.if-contains.false in
            rw w.to-is (taking_same g.met.S.Sink.laws (entry_out a.n a.access.now a.transit.now a.work.now _ c.loop-v-test.true i) c.loop-v.invariant.2)
      ],
    )

pub returns : goal.returns
returns g c =
    let a = c.args in
    taking_end g.met.S.Sink.laws (members_end (entry_for a.n a.access.now a.transit.now a.work.now) a.access.now a.n _ c.loop-v-test.false) c.loop-v.invariant.2
