-- `builder::whole::access_part` meets its contract. Assumes nothing.
use native.Mathlib.Omega.{arith}
use mathlib.Core.Path.{◌∙◌}
use Rattle.words.proofs.Windows.{part_length}
use Rattle.emit.proofs.Pieces.{wrote_part}
use Rattle.builder.proofs.whole.access_part.Goals as goal

pub put_access-requires : goal.put_access-requires
put_access-requires c =
    let a = c.args in
    let l = part_length a.at a.a a.out.now c.requires.a_value.2 in record { based = c.requires.based; body_len = (l ∙ c.requires.a_value.0, omega (arith, l, c.requires.a_value.1)) }

pub returns : goal.returns
returns c =
    let a = c.args in record {
      bytes = wrote_part a.at _ a.out.now c.put_access.new.body _ (omega arith) (omega arith) c.put_access.auto.body
          c.put_access.ensures.bytes;
      others = c.put_access.ensures.others;
    }
