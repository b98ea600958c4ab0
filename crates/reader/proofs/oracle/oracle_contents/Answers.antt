-- `oracle::oracle_contents` meets its contract.
use native.Mathlib.Omega.{arith}
use Rattle.theory.specs.Passed.{all_shaped}
use Rattle.model.specs.Contents.{oracle_entries}
use Rattle.theory.specs.Joined.{whole_contents}
use Rattle.reader.proofs.oracle.oracle_contents.Goals as goal

pub read-requires : goal.read-requires
read-requires c = (omega arith, whole_contents _ _ _ (all_shaped _ c.requires).contents)

pub returns : goal.returns
returns c = λ k h. record {
  entries = oracle_entries;
  few = omega arith;
  below = h;
  read = c.read.ensures;
  joined = (all_shaped _ c.requires
      ).bodies;
}
