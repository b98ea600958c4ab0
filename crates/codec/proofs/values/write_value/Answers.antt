-- `values::write_value` meets its contract.
use Rattle.std.proofs.Common.{◌∙◌}
use Rattle.codec.proofs.Writes.{write_value}
use Rattle.codec.proofs.values.write_value.Goals as goal

pub returns : goal.returns
returns c = c.write16.ensures ∙ rw (c.hops_of.ensures.0, c.write32.ensures)
    (write_value c.args.b.now c.args.at c.args.x c.requires)
