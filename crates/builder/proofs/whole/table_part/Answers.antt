-- `builder::whole::table_part` meets its contract. Assumes nothing.
use Prim.Native.Nat.{◌*◌}
use native.Mathlib.Omega.{arith}
use Rattle.model.specs.Oracle.{value_size}
use Rattle.words.proofs.Windows.{part_length}
use Rattle.emit.proofs.Pieces.{wrote_part}
use Rattle.builder.proofs.whole.table_part.Goals as goal

pub put_table-requires : goal.put_table-requires
put_table-requires c =
    let a = c.args in
    record { n_le_max_nodes = (c.requires.n_le_max_nodes.0, c.requires.n_le_max_nodes.1); indexed_edges = c.requires.indexed_edges; t_value = (c.requires.n_le_max_nodes.2, part_length a.at (value_size * a.t * a.t) a.out.now c.requires.n_le_max_nodes.3) }

pub returns : goal.returns
returns c =
    let a = c.args in record {
      bytes = wrote_part a.at _ a.out.now c.put_table.new.out _ (omega arith) (omega arith) c.put_table.auto.out
          c.put_table.ensures.bytes;
      others = c.put_table.ensures.others;
    }
