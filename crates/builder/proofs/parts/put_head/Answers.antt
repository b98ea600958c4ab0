-- `builder::parts::put_head` meets its contract. Assumes nothing.
use native.Mathlib.Omega.{arith}
use mathlib.Core.Path.{◌≡◌, sym}
use lib.ListN.{length, take}
use lib.Seq.{length-take-le}
use Rattle.model.specs.Contents.{entry_at, oracle_entries, oracle_head}
use Rattle.emit.proofs.Pieces.{wrote_front}
use borrow.Author.Rules.{rules}
use Rattle.builder.proofs.parts.put_head.Goals as goal

pub slice_bounds-write_head-end-3 : goal.slice_bounds-write_head-end-3
slice_bounds-write_head-end-3 c = sym (length-take-le oracle_head c.args.out.now (search rules))

pub write_head-requires : goal.write_head-requires
write_head-requires c =
    let a = c.args in
    let seven : length a.sizes ≡ oracle_entries = search rules in
    let front : length (take oracle_head a.out.now) ≡ entry_at oracle_entries =
    unfold entry_at in length-take-le oracle_head a.out.now (search rules) in
    rw seven (omega arith, omega arith, c.requires.0, front)

pub returns : goal.returns
returns c =
    let a = c.args in
    wrote_front oracle_head a.out.now c.write_head.new.out _ (search rules) c.write_head.auto.out c.write_head.ensures
