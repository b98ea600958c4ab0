use Rattle.model.specs.Contents.{oracle_edition, oracle_entries}
use Rattle.theory.specs.Joined.{whole_contents}
use Rattle.theory.specs.Passed.{all_shaped}
use native.Mathlib.Omega.{arith}
use Rattle.reader.proofs.oracle.oracle_body.Goals as goal

pub body_of-requires : goal.body_of-requires
body_of-requires c = (
  omega arith,
  omega arith,
  whole_contents oracle_edition oracle_entries c.args.o.now (all_shaped c.args.o.now c.requires.0).contents,
  (all_shaped c.args.o.now c.requires.0).bodies,
)
